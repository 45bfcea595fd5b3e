-- `digits::pair_of` meets its contract: the values of both digits. Assumes nothing.
use native.Mathlib.Omega.{arith}
use mathlib.Core.Path.{◌≡◌, ◌∙◌}
use Prim.Native.Nat.{◌%◌}
use Rattle.digits.specs.Digits.{digit_of}
use Rattle.digits.specs.Rows.{pair_of}
use Rattle.digits.proofs.Digits.{value_or_zero}
use Rattle.digits.proofs.pair_of.Goals as goal

pub overflow_mul-result : goal.overflow_mul-result
overflow_mul-result c =
    let high : c.unwrap_or.result ≡ digit_of c.args.high % 16 = c.unwrap_or.ensures ∙ rw c.digit_of.ensures (value_or_zero c.args.high) in
    omega arith

pub overflow_add-result : goal.overflow_add-result
overflow_add-result c =
    let high : c.unwrap_or.result ≡ digit_of c.args.high % 16 = c.unwrap_or.ensures ∙ rw c.digit_of.ensures (value_or_zero c.args.high) in
    let low : c.unwrap_or-2.result ≡ digit_of c.args.low % 16 = c.unwrap_or-2.ensures ∙ rw c.digit_of-2.ensures (value_or_zero c.args.low) in
    omega arith

pub returns : goal.returns
unfolding pair_of
returns c =
    let high : c.unwrap_or.result ≡ digit_of c.args.high % 16 = c.unwrap_or.ensures ∙ rw c.digit_of.ensures (value_or_zero c.args.high) in
    let low : c.unwrap_or-2.result ≡ digit_of c.args.low % 16 = c.unwrap_or-2.ensures ∙ rw c.digit_of-2.ensures (value_or_zero c.args.low) in
    rw (high, low)
