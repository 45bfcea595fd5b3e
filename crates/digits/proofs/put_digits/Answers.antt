-- `digits::put_digits` meets its contract: refused for want of room, else digit by digit. The loop's invariant: the digits that are left, placed here,
-- come to the whole. Assumes nothing.
use native.Mathlib.Omega.{arith}
use mathlib.Core.Path.{◌≡◌, ◌∙◌}
use Prim.Native.Nat.{◌+◌, ◌-◌}
use Rattle.std.proofs.lemmas.Result.{err_from_is_err_and}
use Rattle.digits.proofs.Digits.{length_hex_digits}
use Rattle.digits.proofs.Put.{put_refused, put_served, digit_last, digits_none}
use Rattle.digits.proofs.put_digits.Goals as goal

pub returns-in_err-end : goal.returns-in_err-end
returns-in_err-end c =
    let p = err_from_is_err_and c.from_residual.result c.from_residual.ensures.1 in
    let short = c.in_err-end.ensures in
    put_refused _ _ _ _ _ (length_hex_digits _ _) (cc (p.1, p.2, short.0)) (omega (arith, short.1))

pub loop-i-init : goal.loop-i-init
loop-i-init c =
    let here = c.in_ok-end.ensures in
    let all : c.in_ok-end.end - c.args.at ≡ c.args.count = omega (arith, here.0) in
    (omega (arith, here.0), rw all)

pub loop-i-preserved : goal.loop-i-preserved
loop-i-preserved c =
    let loop = c.loop-i in
    let at = c.args.at in
    let place : at + (loop.i - 1 - at) ≡ loop.i - 1 = omega arith in
    let one : loop.i - 1 - at + 1 ≡ loop.i - at = omega arith in
    let last = digit_last at (loop.i - 1 - at) loop.rest c.digit.result loop.text c.digit.ensures (omega arith) in
    (omega arith, rw (place, one) at last ∙ loop.invariant.1)

pub returns : goal.returns
returns c =
    let loop = c.loop-i in
    let here = c.in_ok-end.ensures in
    let none = digits_none c.args.at (loop.i - c.args.at) loop.rest loop.text (omega arith) in
    put_served _ _ _ _ _ _ (length_hex_digits _ _) here.0 here.1 (none ∙ loop.invariant.1)
