-- `coil::coder::put_track` meets its contract: start, pairs and end make the track. Assumes nothing.
use native.Mathlib.Omega.{arith}
use Prim.Native.Nat.{◌-◌}
use Rattle.coil.specs.Track.{answer_track}
use Rattle.coil.proofs.Pairs.{length_pulses}
use Rattle.lent.proofs.Over.{placed_between}
use Rattle.coil.proofs.coder.put_track.Goals as goal

pub returns : goal.returns
unfolding answer_track
returns c =
    let put_all_lem = c.put_all in
    let args = c.args in
    rw put_all_lem.ensures (placed_between _ _ _ _ (args.n - 1) (omega (arith, length_pulses args.answer.now)) (omega arith))
