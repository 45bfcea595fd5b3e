-- `coil::coder::put_all` meets its contract. The loop's invariant: the pairs of the first i bytes are placed after the start. Assumes nothing.
use mathlib.Core.Path.{◌≡◌}
use lib.ListN.{take}
use Rattle.coil.specs.Track.{pulses}
use Rattle.lent.specs.Lent.{placed}
use Rattle.coil.proofs.coder.put_all.Given as goal

abbrev pub invariant-loop-i : goal.invariant-loop-i
invariant-loop-i l = l.track ≡ placed 1 (pulses (take l.i l.answer)) l.initial.track
