-- `walk::shared::count_marks` meets its contract. The loop's invariant: each number is the count over the marks so far. Assumes nothing.
use mathlib.Core.Path.{refl}
use borrow.Author.Rules.{rules}
use native.Mathlib.Omega.{arith}
use Rattle.tails.specs.Sum.{tally, times}
use Rattle.walk.proofs.OwnersSteps.{times_more, times_fit, shares_counted}
use Rattle.walk.proofs.shared.count_marks.Goals as goal

pub loop-owner-init : goal.loop-owner-init
unfolding times tally
loop-owner-init c = (refl, refl, refl)

pub overflow_add-free : goal.overflow_add-free
overflow_add-free c = omega (arith, times_fit 255 _ _ _ _ (search rules) c.loop-owner-test.true c.loop-owner.invariant.0 c.from-free.ensures)

pub overflow_add-first : goal.overflow_add-first
overflow_add-first c = omega (arith, times_fit 0 _ _ _ _ (search rules) c.loop-owner-test.true c.loop-owner.invariant.1 c.from-first.ensures)

pub overflow_add-second : goal.overflow_add-second
overflow_add-second c = omega (arith, times_fit 1 _ _ _ _ (search rules) c.loop-owner-test.true c.loop-owner.invariant.2 c.from-second.ensures)

pub loop-owner-preserved : goal.loop-owner-preserved
loop-owner-preserved c = (
  times_more 255 _ _ _ _ (search rules) c.loop-owner-test.true c.loop-owner.invariant.0 c.from-free.ensures,
  times_more 0 _ _ _ _ (search rules) c.loop-owner-test.true c.loop-owner.invariant.1 c.from-first.ensures,
  times_more 1 _ _ _ _ (search rules) c.loop-owner-test.true c.loop-owner.invariant.2 c.from-second.ensures,
)

pub returns : goal.returns
returns c =
    let loop = c.loop-owner in
    shares_counted c.args.marks.now loop.owner-index _ _ _ (search rules) c.loop-owner-test.false loop.auto.owner-index-end loop.invariant.0 loop.invariant.1 loop.invariant.2
