-- A card in step with the walk that hears a slot mark is in step at the next slot, and answers exactly if that slot calls it.
-- By the card's definition of a slot mark. Assumes nothing.
use mathlib.Core.Path.{◌≡◌, refl}
use mathlib.Core.Bool.{Bool, true, false, cond, ◌&&◌}
use Prim.Native.Nat.{ℕ, suc, ◌<◌}
use native.Mathlib.Numerals.{add-one}
use borrow.Author.Tests.{lt-ltb}
use Rattle.card.specs.declared.Card.{Card}
use Rattle.card.specs.declared.Sequence.TheVariants.{Running}
use Rattle.card.specs.Record.{remade, cleared, in_sequence}
use Rattle.card.specs.Inventory.{turn, present}
use Rattle.slots.specs.Fits.{fits_mask, fits_slot}
use Rattle.card.specs.Mark.{moved, released, marked}
use Rattle.walk.specs.declared.Walk.{Walk}
use Rattle.walk.specs.Record.{mask_length, whole_mask}
use Rattle.field.specs.Field.{answers}
use Rattle.field.proofs.InTime.{in_step, calls}

pub mark_heard : (family : ℕ) (w : Walk) (s : ℕ) (c : Card) → w.slot ≡ suc s → s < 15
    → marked (in_step family w.level (whole_mask w) s c) ≡ turn (in_step family w.level (whole_mask w) w.slot c) (present (calls family w c))
unfolding marked released moved in_step calls cleared in_sequence remade present fits_slot fits_mask whole_mask
mark_heard family w s c e h = rw e (go (answers family c))
  where
    go : (b : Bool)
        → marked (cond b (in_sequence (Running s (mask_length w.level) (whole_mask w)) (cleared c)) (cleared c))
        ≡ turn (cond b (in_sequence (Running (suc s) (mask_length w.level) (whole_mask w)) (cleared c)) (cleared c))
        (present (b && fits_slot c.uid (mask_length w.level) (whole_mask w) (suc s)))
    go true = rw (lt-ltb s 15 h, add-one)
    go false = refl
