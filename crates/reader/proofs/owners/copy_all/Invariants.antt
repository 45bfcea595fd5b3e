-- `reader::owners::copy_all` meets its contract. The loop's invariant: the first i bytes are placed (Copy.antt). Assumes nothing.
use mathlib.Core.Path.{◌≡◌}
use lib.ListN.{take}
use Rattle.lent.specs.Lent.{placed}
use Rattle.reader.proofs.owners.copy_all.Given as goal

abbrev pub invariant-loop-i : goal.invariant-loop-i
invariant-loop-i l = l.to ≡ placed 0 (take l.i l.from) l.initial.to
