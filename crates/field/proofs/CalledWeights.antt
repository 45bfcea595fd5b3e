-- What the slot that a fixed field brings weighs: its UIDs, and whether they share its tail. By the definitions of the weights.
-- Assumes nothing.
use mathlib.Core.Path.{◌≡◌, ap, ◌∙◌}
use mathlib.Core.Bool.{false}
use Prim.Native.Nat.{ℕ, suc, ◌<◌}
use mathlib.Core.List.{List}
use lib.Dec.{leb}
use lib.ListN.{length}
use Rattle.tails.specs.Sum.{tally}
use Rattle.tails.specs.Tails.{is_shared}
use Rattle.tails.proofs.Digits.{above_below}
use Rattle.tails.proofs.Below.{below_none}
use Rattle.walk.specs.declared.Walk.{Walk}
use Rattle.walk.specs.Record.{whole_mask}
use Rattle.field.proofs.Steady.{Steady, mask_tail}
use Rattle.field.proofs.WaitSums.{slot_tail}
use Rattle.field.proofs.Weights.{weigh, below_at}
use Rattle.field.proofs.Called.{called}

-- what the slot weighs
pub slot_weight : (v : ℕ → ℕ) (us xs : List ℕ) (w : Walk) → called us w ≡ xs → weigh v us (suc w.level) (slot_tail w.level (whole_mask w) w.slot) ≡ tally v xs
unfolding weigh called
slot_weight v us xs w h = ap (λ (ys : List ℕ). tally v ys) h

pub slot_shared : (us xs : List ℕ) (w : Walk) → called us w ≡ xs → is_shared us (suc w.level) (slot_tail w.level (whole_mask w) w.slot) ≡ leb 2 (length xs)
unfolding is_shared called
slot_shared us xs w h = ap (λ (ys : List ℕ). leb 2 (length ys)) h

-- a slot with no clash has no shared tail
pub slot_alone : (levels : ℕ) (us xs : List ℕ) (w : Walk) → w.slot < 16 → Steady w w.slot → called us w ≡ xs → leb 2 (length xs) ≡ false
    → below_at levels us (suc w.level) (slot_tail w.level (whole_mask w) w.slot) ≡ 0
unfolding below_at
slot_alone levels us xs w h g e f =
    below_none us _ (suc w.level) (slot_tail w.level (whole_mask w) w.slot) (above_below w.level (whole_mask w) w.slot (mask_tail g) h)
    (slot_shared us xs w e ∙ f)
