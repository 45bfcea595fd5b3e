-- `tracks::coder::put_all` meets its contract. The loop's invariant: the units of the first i bytes are placed after the start.
-- Assumes nothing.
use mathlib.Core.Path.{sym}
use lib.ListN.{length}
use Rattle.tracks.proofs.Units.{unit_room, placed_pulses_suc}
use Rattle.tracks.specs.Track.{pulses}
use Rattle.lent.proofs.Over.{placed_none}
use Rattle.tracks.proofs.coder.put_all.Goals as goal

pub loop-i-init : goal.loop-i-init
unfolding pulses
loop-i-init c = sym (placed_none 1 _)

pub loop-i-preserved : goal.loop-i-preserved
loop-i-preserved c =
    let room = unit_room c.args.coding c.loop-i.i (length c.args.frame.now) (length c.args.track.now) c.loop-i-test.true c.requires in
    rw (c.put.ensures, c.unit_of-width.ensures, c.loop-i.invariant)
    (placed_pulses_suc c.args.coding c.loop-i.i c.args.frame.now c.args.track.now c.loop-i-test.true room)
