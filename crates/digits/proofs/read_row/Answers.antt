-- `digits::read_row` meets its contract. The loop's invariant: the bytes of the row that is left, placed here, come to the whole. Assumes nothing.
use native.Mathlib.Omega.{arith}
use mathlib.Core.Path.{refl, ap, ◌∙◌}
use lib.ListN.{length, length-append}
use Rattle.std.specs.Iterator.Adapters.{enumerate_source, enumerate_count}
use Rattle.std.specs.Slice.Iter.{chunks_exact_rest}
use Rattle.std.proofs.lemmas.Result.{err_from_is_err_and}
use Rattle.digits.proofs.Rows.{read_more, read_end, read_refused, read_served}
use Rattle.digits.proofs.read_row.Goals as goal

pub returns-in_err-end : goal.returns-in_err-end
returns-in_err-end c =
    let p = err_from_is_err_and c.from_residual.result c.from_residual.ensures.1 in
    let short = c.in_err-end.ensures in
    read_refused _ _ _ (cc (p.1, p.2, short.0)) (omega (arith, short.1))

pub loop-i-init : goal.loop-i-init
loop-i-init c =
    let chunks = c.chunks_exact.ensures in
    let numbered = c.enumerate-i-items.ensures in
    rw (c.into_iter-i-iterator.ensures.into_iter_gives, numbered.source, numbered.count, chunks.rest) (chunks.size, omega arith, refl)

pub loop-i-preserved : goal.loop-i-preserved
loop-i-preserved c =
    let loop = c.loop-i in
    let steps = c.in-Some.ensures.steps in
    let pair = c.in-Some.pair.now in
    let left = chunks_exact_rest (enumerate_source c.next.new.self) in
    let three = steps.0.1.1 ∙ loop.invariant.0 in
    let all = rw length-append at (ap length steps.0.1.0) in
    let more = read_more pair left loop.buffer (enumerate_count loop.i-iterator) c.pair_of.result three (omega (arith, all, three, c.in_ok-end.ensures.0, c.in_ok-end.ensures.1)) c.pair_of.ensures in
    (steps.0.0 ∙ loop.invariant.0, omega (arith, all, three, steps.2), rw (steps.2, steps.1) (more ∙ rw (← steps.0.1.0) loop.invariant.2))

pub returns : goal.returns
returns c =
    let here = c.in_ok-end.ensures in
    let loop = c.loop-i in
    let text = c.args.text.now in
    let steps = c.in-None.ensures.steps in
    let end = read_end (chunks_exact_rest (enumerate_source loop.i-iterator)) loop.buffer (enumerate_count loop.i-iterator) (omega (arith, steps.0.1.0)) in
    read_served text _ loop.buffer c.in_ok-end.end (omega (arith, here.0)) (omega (arith, here.0, here.1)) (end ∙ loop.invariant.2)
