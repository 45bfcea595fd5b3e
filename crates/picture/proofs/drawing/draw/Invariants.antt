-- `picture::drawing::draw` meets its contract. The loop's invariant: what is drawn so far and what is left to draw are the whole (Slots.antt).
-- The measure is how many slots are left. Assumes nothing.
use mathlib.Core.Path.{◌≡◌}
use Prim.Native.Nat.{◌-◌}
use lib.ListN.{length, take}
use Rattle.walk.specs.Marks.{levels}
use Rattle.walk.specs.Record.{most_slots}
use Rattle.picture.proofs.Slots.{Drawing, whole_of, end_of}
use Rattle.picture.proofs.drawing.draw.Given as goal

abbrev pub invariant-loop-row : goal.invariant-loop-row
invariant-loop-row l =
    (length l.out ≡ length l.initial.out) × Drawing (whole_of l.initial.desk (take l.n l.initial.row)) (end_of l.initial.desk (take l.n l.initial.row)) l.initial.at l.initial.out l.count l.desk (take l.n l.row) l.at l.out

abbrev pub decreases-loop-row : goal.decreases-loop-row
decreases-loop-row l = most_slots levels - l.count
