-- The slot that a fixed field of UIDs brings to a walk.
-- Definitions that the proofs of demand 3 share. Assumes nothing.
use mathlib.Core.Bool.{true, cond}
use mathlib.Core.Path.{◌≡◌}
use Prim.Native.Nat.{ℕ, suc, ◌+◌, ◌*◌, ◌^◌, ◌≤◌}
use mathlib.Core.List.{List, [], ◌∷◌}
use Rattle.tails.specs.Sum.{times}
use Rattle.tails.specs.Tails.{ending}
use Rattle.walk.specs.declared.Walk.{Walk}
use Rattle.walk.specs.Record.{whole_mask}
use Rattle.walk.specs.declared.Slot.{Slot}
use Rattle.walk.specs.declared.Slot.TheVariants.{Silent, Clashed, Clean}
use Rattle.walk.specs.Hear.{starts_e0}

-- the UIDs that mask and slot call
unfoldable pub called : List ℕ → Walk → List ℕ
called us w = ending (suc w.level) (whole_mask w + w.slot * 16 ^ w.level) us

-- none, one or more of them
unfoldable pub slot_of : List ℕ → Slot
slot_of [] = Silent
slot_of (u ∷ []) = Clean u
slot_of (u ∷ v ∷ us) = Clashed

-- what a walk of so many levels makes of them: one that does not begin with E0 is a clash
unfoldable pub slot_heard : ℕ → List ℕ → Slot
slot_heard levels [] = Silent
slot_heard levels (u ∷ []) = cond (starts_e0 levels u) (Clean u) Clashed
slot_heard levels (u ∷ v ∷ us) = Clashed

-- each of the UIDs us has above so many digits what E0 has there
unfoldable pub Starts : ℕ → List ℕ → Type 0
Starts levels us = (u : ℕ) → 1 ≤ times u us → starts_e0 levels u ≡ true
