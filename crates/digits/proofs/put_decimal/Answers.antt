-- `digits::put_decimal` meets its contract: the digits from the last on, then put. The loop's invariant: those above and those that stand there are the
-- whole. The measure is what is left of the number. Assumes nothing.
use native.Mathlib.Omega.{arith}
use mathlib.Core.Path.{refl}
use lib.ListN.{drop, length-set}
use Rattle.digits.proofs.Decimal.{decimal_last, above_more, above_over, digits_left, tenth_below, put_part}
use Rattle.digits.proofs.put_decimal.Goals as goal

pub digit-requires : goal.digit-requires
digit-requires c = tt

pub loop-rest-init : goal.loop-rest-init
loop-rest-init c = (refl, omega arith, omega arith, rw c.digit.ensures (decimal_last _))

pub overflow_sub-first : goal.overflow_sub-first
overflow_sub-first c = digits_left c.loop-rest.first c.loop-rest.rest (omega arith) c.loop-rest.invariant.2

pub digit-requires-in-loop-rest : goal.digit-requires-in-loop-rest
digit-requires-in-loop-rest c = tt

pub loop-rest-preserved : goal.loop-rest-preserved
loop-rest-preserved c =
    let loop = c.loop-rest in
    let some = digits_left loop.first loop.rest (omega arith) loop.invariant.2 in (
      simp length-set loop.invariant.0,
      omega arith,
      tenth_below loop.first loop.rest some loop.invariant.2,
      above_more loop.first loop.rest c.digit-in-loop-rest.result loop.digits _ (omega arith) some (omega arith) c.digit-in-loop-rest.ensures loop.invariant.3,
    )

pub put_bytes-requires : goal.put_bytes-requires
put_bytes-requires c = tt

pub returns : goal.returns
returns c =
    let loop = c.loop-rest in
    let put = c.put_bytes in
    let part = put_part loop.first loop.digits loop.invariant.0 in
    let none = above_over loop.rest (drop loop.first loop.digits) (omega arith) in
    rw (part, ← none, loop.invariant.3) at put.ensures
