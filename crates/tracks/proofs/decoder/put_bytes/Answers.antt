-- `tracks::decoder::put_bytes` meets its contract. The loop's invariant: the first i bytes stand in the frame, and the units left are bytes.
-- Assumes nothing.
use mathlib.Core.Path.{◌≡◌, refl, sym, ◌∙◌}
use Prim.Native.Nat.{ℕ, ◌+◌, ◌*◌}
use native.Mathlib.Nat.{mul-zero, sub-zero}
use native.Mathlib.Omega.{arith}
use lib.ListN.{take, drop}
use lib.Seq.{length-take-le}
use Rattle.tracks.specs.Steps.{byte_of, bytes_of}
use Rattle.tracks.specs.Track.{unit}
use Rattle.lent.proofs.Over.{placed_none}
use Rattle.tracks.proofs.Units.{unit_next}
use Rattle.tracks.proofs.Bytes.{are_bytes_next, placed_bytes_suc, length_bytes_of, over_part}
use Rattle.tracks.proofs.Reading.{some_byte, is_byte}
use Rattle.tracks.proofs.decoder.put_bytes.Goals as goal

pub loop-i-init : goal.loop-i-init
unfolding bytes_of
loop-i-init c = (rw (mul-zero, sub-zero) c.requires.track_value, sym (placed_none 0 _))

pub unwrap-requires : goal.unwrap-requires
unwrap-requires c =
    let at : ℕ = 1 + unit c.args.coding * c.loop-i.i in
    let more = rw (length-take-le c.args.n c.args.frame.now c.requires.n_in_bounds_2) at c.loop-i-test.true in
    let next = are_bytes_next c.args.coding c.args.n c.loop-i.i at c.args.track.now more c.loop-i.invariant.0 in
    rw (c.byte_at.ensures, c.unit_of-width.ensures, some_byte _ next.0) refl

pub loop-i-preserved : goal.loop-i-preserved
loop-i-preserved c =
    let i : ℕ = c.loop-i.i in
    let at : ℕ = 1 + unit c.args.coding * i in
    let t = c.args.track.now in
    let more = rw (length-take-le c.args.n c.args.frame.now c.requires.n_in_bounds_2) at c.loop-i-test.true in
    let next = are_bytes_next c.args.coding c.args.n i at t more c.loop-i.invariant.0 in
    let read = rw c.unit_of-width.ensures at c.byte_at.ensures in
    let byte = is_byte (byte_of c.args.coding (take (unit c.args.coding) (drop at t))) (sym read ∙ c.unwrap.ensures) in
    (rw (unit_next c.args.coding i) at next.1, rw (c.loop-i.invariant.1, ← byte.1) (placed_bytes_suc c.args.coding i t (take c.args.n c.args.frame.now) c.loop-i-test.true))

pub returns : goal.returns
returns c =
    let long = length-take-le c.args.n c.args.frame.now c.requires.n_in_bounds_2 in
    let past : c.loop-i.i ≡ c.args.n = omega (arith, long) in
    rw (c.loop-i.invariant.1, past)
    (over_part c.args.n (bytes_of c.args.coding c.args.n (drop 1 c.args.track.now)) c.args.frame.now (length_bytes_of c.args.coding c.args.n _) c.requires.n_in_bounds_2)
