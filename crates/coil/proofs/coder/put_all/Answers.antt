-- `coil::coder::put_all` meets its contract. The loop's invariant: the pairs of the first i bytes are placed after the start. Assumes nothing.
use native.Mathlib.Omega.{arith}
use mathlib.Core.Path.{sym}
use Rattle.coil.proofs.Units.{placed_pulses_suc}
use Rattle.coil.specs.Track.{pulses}
use Rattle.lent.proofs.Over.{placed_none}
use Rattle.coil.proofs.coder.put_all.Goals as goal

pub loop-i-init : goal.loop-i-init
unfolding pulses
loop-i-init c = sym (placed_none 1 _)

pub loop-i-preserved : goal.loop-i-preserved
loop-i-preserved c =
    rw (c.half_of.ensures, c.half_of-in-loop-i.ensures, c.loop-i.invariant)
    (placed_pulses_suc c.loop-i.i c.args.answer.now c.args.track.now c.loop-i-test.true (omega arith))
