-- `walk::record::opened_mask` meets its contract: the digits below and the digit above stay within 64 bits. Assumes nothing.
use native.Mathlib.Omega.{arith}
use Rattle.walk.specs.Record.{mask_length, opened_mask}
use Rattle.walk.proofs.Limits.{low_digits_most, digit_most}
use Rattle.walk.proofs.record.opened_mask.Goals as goal

pub overflow_mul-result : goal.overflow_mul-result
overflow_mul-result c = rw c.from.ensures (omega (arith, digit_most c.unit.result c.args.s c.requires.s_bound, c.unit.ensures.upper_bound))

pub overflow_add-result : goal.overflow_add-result
overflow_add-result c =
    let low = low_digits_most c.args.mask c.args.j c.requires.j_bound in
    rw (c.from.ensures, c.low_bits.ensures) (omega (arith, low, digit_most c.unit.result c.args.s c.requires.s_bound, c.unit.ensures.upper_bound))

pub returns : goal.returns
unfolding opened_mask mask_length
returns c = rw (c.low_bits.ensures, c.from.ensures, c.unit.ensures.value)
