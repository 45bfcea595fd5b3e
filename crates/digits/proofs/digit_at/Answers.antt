-- `digits::digit_at` meets its contract: past the end there is no digit. Assumes nothing.
use native.Mathlib.Omega.{arith}
use mathlib.Core.Path.{◌≡◌}
use Prim.Native.Nat.{◌+◌}
use lib.ListN.{get_or}
use Rattle.digits.proofs.Digits.{value_or_zero, value_past}
use Rattle.digits.proofs.digit_at.Goals as goal

pub returns-in_err-checked_add : goal.returns-in_err-checked_add
returns-in_err-checked_add c =
    rw c.from_residual.ensures (value_past c.args.text.now (c.args.at + c.args.i) (omega (arith, c.in_err-checked_add.ensures)))

pub returns-in_err-get : goal.returns-in_err-get
returns-in_err-get c =
    let place = c.in_ok-checked_add.ensures in
    rw c.from_residual-in_err-get.ensures (value_past c.args.text.now (c.args.at + c.args.i) (omega (arith, place.1, c.in_err-get.ensures.lookup)))

pub returns : goal.returns
returns c =
    let place = c.in_ok-checked_add.ensures in
    let byte : c.in_ok-get.field-0.now ≡ get_or c.args.text.now (c.args.at + c.args.i) 0 = rw (← place.1) (c.in_ok-get.ensures.lookup.3.1 0) in
    rw (c.digit_of.ensures, ← byte) (value_or_zero c.in_ok-get.field-0.now)
