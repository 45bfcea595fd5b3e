-- `tracks::coder::put_track` meets its contract: start, units and end make the track. Assumes nothing.
use native.Mathlib.Omega.{arith}
use Prim.Native.Nat.{◌-◌}
use Rattle.tracks.specs.Track.{track_of}
use Rattle.lent.proofs.Over.{placed_between}
use Rattle.tracks.proofs.Units.{length_pulses}
use Rattle.tracks.proofs.coder.put_track.Goals as goal

pub returns : goal.returns
unfolding track_of
returns c =
    let put_all_lem = c.put_all in
    let start_of_lem = c.start_of in
    let args = c.args in
    rw (put_all_lem.ensures, start_of_lem.ensures) (placed_between _ _ _ _ (args.n - 1) (omega (
      arith,
      length_pulses args.coding
          args.frame.now,
    )) (omega arith))
