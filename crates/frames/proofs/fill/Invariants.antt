-- `frames::fill` meets its contract. The loop's invariant: what stands at the places that were passed, and the low bytes of what is left for the other
-- places, are the low bytes of the value. Assumes nothing.
use mathlib.Core.Path.{◌≡◌}
use mathlib.Core.List.{◌++◌}
use Prim.Native.Nat.{◌-◌}
use lib.ListN.{length, take}
use Rattle.frames.specs.Field.{field_bytes}
use Rattle.frames.proofs.fill.Given as goal

abbrev pub invariant-loop-slot : goal.invariant-loop-slot
invariant-loop-slot l =
    take l.slot-index l.slot-items ++ field_bytes (length l.fn.field - l.slot-index) l.left ≡ field_bytes (length l.fn.field) l.value
