-- `digits::has_form` meets its contract: texts of another length have another form; else each byte fits its own. Assumes nothing.
use mathlib.Core.Path.{◌≡◌, ◌∙◌}
use borrow.Author.Tests.{ne_eqb}
use Rattle.std.specs.Iterator.Adapters.{zip_second}
use Rattle.std.specs.Slice.Iter.{iter_rest}
use Rattle.std.proofs.Common.{rules, tests}
use Rattle.std.proofs.lemmas.Iterator.{YieldsList-from_slice, YieldsList-from_zip}
use Rattle.std.proofs.lemmas.Iterator.Consumers.{YieldsList-at}
use Rattle.std.proofs.lemmas.Iterator.Search.{all_from_yields_List}
use Rattle.digits.specs.Digits.{fits}
use Rattle.digits.proofs.Digits.{form_length, form_pairs}
use Rattle.digits.proofs.has_form.Goals as goal

pub returns-then-text-form : goal.returns-then-text-form
returns-then-text-form c =
    let text = c.args.text.now in
    let form = c.args.form.now in
    let second : iter_rest (zip_second c.zip.result) ≡ form = search rules in
    all_from_yields_List (λ p. fits p.0 p.1) c.all.new.self _ c.all.result c.all.ensures.ran
    (YieldsList-from_zip (YieldsList-at c.zip.ensures.first (YieldsList-from_slice text c.iter.ensures.rest)) (YieldsList-from_slice form second))
    (λ x b q k. search (rules, tests))
    ∙ form_pairs text form c.if-text-form.true

pub returns-else-text-form : goal.returns-else-text-form
returns-else-text-form c = rw (ne_eqb _ _ c.if-text-form.false) (form_length _ _ c.if-text-form.false)
