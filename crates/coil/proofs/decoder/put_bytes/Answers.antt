-- `coil::decoder::put_bytes` meets its contract. The invariant of both loops: the first bytes, as many as were passed, stand in the answer; in the
-- second, over any list over which those of the first loop stand. Assumes nothing.
use native.Mathlib.Omega.{arith}
use mathlib.Core.Path.{◌≡◌, sym, ◌∙◌}
use Prim.Native.Nat.{◌+◌, ◌*◌, ◌/◌}
use lib.ListN.{get_or}
use Rattle.coil.proofs.Bytes.{four_bits_most, placed_bytes_more, placed_bytes_suc}
use Rattle.coil.specs.Decoder.{bytes_from}
use Rattle.lent.proofs.Over.{placed_none, placed_start}
use Rattle.coil.proofs.decoder.put_bytes.Goals as goal

pub loop-i-init : goal.loop-i-init
unfolding bytes_from
loop-i-init c = sym (placed_none 0 _)

pub loop-i-preserved : goal.loop-i-preserved
loop-i-preserved c =
    let next : 16 * c.loop-i.i + 16 ≡ 16 * (c.loop-i.i + 1) = omega arith in
    let more = placed_bytes_more c.args.track.now c.args.answer.now (16 * c.loop-i.i) 16 (omega arith) in
    c.put_sixteen.ensures ∙ rw c.loop-i.invariant (rw next at more)

pub overflow_mul-answer : goal.overflow_mul-answer
overflow_mul-answer c = rw c.bits_of-high.ensures (omega (arith, four_bits_most (get_or c.args.track.now (2 + 2 * c.loop-k.k) 0)))

pub overflow_add-answer : goal.overflow_add-answer
overflow_add-answer c =
    let low = four_bits_most (get_or c.args.track.now (1 + 2 * c.loop-k.k) 0) in
    let high = four_bits_most (get_or c.args.track.now (2 + 2 * c.loop-k.k) 0) in
    rw (c.bits_of-low.ensures, c.bits_of-high.ensures) (omega (arith, low, high))

pub loop-k-preserved : goal.loop-k-preserved
loop-k-preserved c = (
  omega arith,
  λ e room is.
      rw (c.loop-k.invariant.1 e room is)
      (placed_bytes_suc c.args.track.now e 0 0 c.loop-k.k (omega arith) (omega arith) (omega arith) c.bits_of-low.ensures c.bits_of-high.ensures (omega arith)),
)

pub returns : goal.returns
returns c =
    let past : c.loop-k.k ≡ c.args.n = omega arith in
    let passed : 16 * c.loop-i.i ≡ c.args.n / 16 * 16 = omega arith in
    rw past at (c.loop-k.invariant.1 c.args.answer.now c.requires.n_in_bounds_2 (rw passed at c.loop-i.invariant)) ∙ placed_start _ _
