-- `walk::shared::free_rows` meets its contract. The loop's invariant: the rows so far are freed, the others as found. Assumes nothing.
use mathlib.Core.Path.{◌≡◌}
use Rattle.walk.proofs.OwnersSteps.{freed_to}
use Rattle.walk.proofs.shared.free_rows.Given as goal

abbrev pub invariant-loop-owner : goal.invariant-loop-owner
invariant-loop-owner l = l.owner-items ≡ freed_to l.rack l.owner-index l.initial.owner-items
