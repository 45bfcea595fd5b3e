-- `digits::is_row` meets its contract: three bytes at a time, each a pair; a part of a pair is no row. Assumes nothing.
use mathlib.Core.Path.{◌∙◌}
use borrow.Author.Tests.{ne_eqb}
use Rattle.std.proofs.Common.{rules, tests}
use Rattle.std.proofs.lemmas.Iterator.Search.{all_from_yields_List}
use Rattle.digits.proofs.Rows.{is_three, yields_threes, row_threes, row_cut}
use Rattle.digits.proofs.is_row.Goals as goal

pub returns-then-text-eq0 : goal.returns-then-text-eq0
returns-then-text-eq0 c =
    let text = c.args.text.now in
    all_from_yields_List is_three c.all.new.self _ c.all.result c.all.ensures.ran
    (yields_threes text c.chunks_exact.ensures.rest c.chunks_exact.ensures.size)
    (λ x b q k. search (rules, tests))
    ∙ row_threes text c.if-text-eq0.true

pub returns-else-text-eq0 : goal.returns-else-text-eq0
returns-else-text-eq0 c = rw (ne_eqb _ _ c.if-text-eq0.false) (row_cut _ c.if-text-eq0.false)
