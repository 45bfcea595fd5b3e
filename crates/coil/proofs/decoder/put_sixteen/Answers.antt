-- `coil::decoder::put_sixteen` meets its contract. The first loop's invariant: the bits of the first k bytes are gathered; the second's: the first
-- j bytes stand in the part of the answer. Assumes nothing.
use native.Mathlib.Omega.{arith}
use mathlib.Core.Path.{◌≡◌, sym}
use Prim.Native.Nat.{ℕ, ◌+◌, ◌*◌}
use lib.ListN.{get_or}
use Rattle.std.specs.List.{between}
use Rattle.std.proofs.lemmas.List.Edits.{length-between}
use Rattle.coil.proofs.Bytes.{four_bits_most, placed_bytes_suc, bytes_in_part}
use Rattle.coil.specs.Decoder.{bytes_from}
use Rattle.lent.proofs.Over.{placed_none}
use Rattle.coil.proofs.decoder.put_sixteen.Goals as goal

pub loop-j-init : goal.loop-j-init
unfolding bytes_from
loop-j-init c = sym (placed_none 0 _)

pub overflow_mul-byte-in-loop-j-2 : goal.overflow_mul-byte-in-loop-j-2
overflow_mul-byte-in-loop-j-2 c =
    let args = c.args in
    let part = length-between args.answer.now args.i (args.i + 16) c.requires.i_in_bounds in
    let odd : ℕ = 2 * c.loop-j.j + 1 in
    rw (c.loop-k.invariant.1 odd (omega (arith, part))) (omega (arith, four_bits_most (get_or args.track.now (args.at + odd) 0)))

pub overflow_add-byte-in-loop-j : goal.overflow_add-byte-in-loop-j
overflow_add-byte-in-loop-j c =
    let args = c.args in
    let part = length-between args.answer.now args.i (args.i + 16) c.requires.i_in_bounds in
    let even : ℕ = 2 * c.loop-j.j in
    let low = four_bits_most (get_or args.track.now (args.at + even) 0) in
    let high = four_bits_most (get_or args.track.now (args.at + (even + 1)) 0) in
    rw (c.loop-k.invariant.1 even (omega (arith, part)), c.loop-k.invariant.1 (even + 1) (omega (arith, part))) (omega (arith, low, high))

pub loop-j-preserved : goal.loop-j-preserved
loop-j-preserved c =
    let args = c.args in
    let j : ℕ = c.loop-j.j in
    let part = length-between args.answer.now args.i (args.i + 16) c.requires.i_in_bounds in
    let low = c.loop-k.invariant.1 (2 * j) (omega (arith, part)) in
    let high = c.loop-k.invariant.1 (2 * j + 1) (omega (arith, part)) in
    rw c.loop-j.invariant
    (placed_bytes_suc args.track.now (between args.i (args.i + 16) args.answer.now) 0 args.i j (omega arith) (omega arith) (omega arith) low high c.loop-j-test.true)

pub returns : goal.returns
returns c =
    let args = c.args in
    let past : c.loop-j.j ≡ 16 = omega (arith, length-between args.answer.now args.i (args.i + 16) c.requires.i_in_bounds) in
    rw (c.loop-j.invariant, past) (bytes_in_part args.track.now args.answer.now args.i 16 c.requires.i_in_bounds)
