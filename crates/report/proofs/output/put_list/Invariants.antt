-- `report::output::put_list` meets its contract. The loop's invariant: the lines of the first UIDs stand there, 17 bytes each. Assumes nothing.
use mathlib.Core.Path.{◌≡◌}
use Prim.Native.Nat.{◌+◌, ◌*◌}
use lib.ListN.{take}
use Rattle.lent.specs.Puts.{PutsAt}
use Rattle.report.specs.Output.{uid_lines}
use Rattle.report.proofs.output.put_list.Given as goal

abbrev pub invariant-loop-uid : goal.invariant-loop-uid
invariant-loop-uid l =
    (l.next ≡ l.at + 17 * l.uid-index) × PutsAt l.at (uid_lines (take l.uid-index l.uids)) l.initial.out l.next l.out
