-- `reader::owners::copy` meets its contract. The loop's invariant: the first i bytes are placed (Copy.antt). Assumes nothing.
use mathlib.Core.Path.{◌≡◌}
use lib.ListN.{take, drop}
use Rattle.lent.specs.Lent.{placed}
use Rattle.reader.proofs.owners.copy.Given as goal

abbrev pub invariant-loop-i : goal.invariant-loop-i
invariant-loop-i l = l.to ≡ placed l.place (take l.i (drop l.at l.from)) l.initial.to
