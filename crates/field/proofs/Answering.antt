-- A card that answers the walk's family is heard in the one slot of the first round that its UID's lowest digit names, any other card in none.
-- By the slots one after the other: the request, then each mark, finds the card in step. Assumes nothing.
use mathlib.Core.Path.{◌≡◌, refl, ap, ◌∙◌}
use mathlib.Core.Bool.{Bool, true, false, cond, not, ◌&&◌}
use Prim.Native.Nat.{ℕ, zero, suc, ◌+◌, ◌*◌, ◌%◌, ◌^◌, ◌≤◌, ◌<◌}
use native.Mathlib.Omega.{arith}
use mathlib.Core.List.{List}
use lib.Dec.{eqb}
use lib.ListN.{length}
use Rattle.slots.specs.Fits.{fits_slot}
use Rattle.walk.specs.declared.Walk.{Walk}
use Rattle.walk.specs.Marks.{levels}
use Rattle.walk.specs.Record.{running, mask_length, whole_mask, is_running, remade, no_marks, started_of, started}
use Rattle.walk.specs.Ask.{room_after}
use Rattle.walk.proofs.Accepted.{started_accepted}
use Rattle.play.specs.Life.{Tag, tag_after}
use Rattle.field.specs.Field.{Obeys, answers}
use Rattle.field.specs.Answering.{outcome_in, is_heard, HeardOnce}
use Rattle.field.proofs.InTime.{calls, AtSlot}
use Rattle.field.proofs.InStep.{self_follows}
use Rattle.field.proofs.TagHeard.{stepped, request_reached, mark_reached}
use Rattle.field.proofs.TagStepped.{stepped_at, stepped_told}
use Rattle.field.proofs.Callers.{slot_tail_lem}
use Rattle.field.proofs.RowAsked.{walk_asked, sent_request}

-- slot s of a walk's first round
unfoldable first_round : ℕ → ℕ → Walk
first_round family s = remade (started family) 0 0 (no_marks levels) 1 0 s 0 running

-- the request of a fresh walk
request_in : (family : ℕ) (room : List ℕ) (t : Tag) → Obeys t → 14 ≤ length room
    → outcome_in family room t 0 ≡ stepped family (first_round family 0) t t.room
unfolding outcome_in room_after first_round started started_of remade is_running mask_length whole_mask
request_in family room t o h =
    rw (walk_asked (started family) room (started_accepted family) h, sent_request (started family) refl refl)
    (request_reached (started family) room t t (omega arith) (omega arith) refl o (self_follows t o))

-- in slot s the card is in step with the walk, over its room as slot s found it
in_step : (family : ℕ) (room : List ℕ) (t : Tag) → Obeys t → 14 ≤ length room → (s : ℕ) → s < 16
    → (found : List ℕ) × ((outcome_in family room t s ≡ stepped family (first_round family s) t found) × (length found ≡ length t.room))
unfolding outcome_in tag_after first_round started started_of remade mask_length whole_mask
in_step family room t o h zero g = (t.room, (request_in family room t o h, refl))
in_step family room t o h (suc s) g =
    let earlier = in_step family room t o h s (omega arith) in
    let before : Tag = tag_after (outcome_in family room t s) in
    let at : AtSlot family 0 0 s t before = rw earlier.1.0 (stepped_at family (first_round family s) t earlier.0 o earlier.1.1) in
    (before.room, (mark_reached family (first_round family (suc s)) s room t before (omega arith) (omega arith) refl (omega arith) o at, at.room))

-- with no mask the slot is the lowest digit
digit_called : (uid s : ℕ) → s < 16 → fits_slot uid (mask_length 0) 0 s ≡ eqb (uid % 16) s
unfolding mask_length
digit_called uid s h =
    let tail : 0 + s * 16 ^ 0 ≡ s = omega arith in
    slot_tail_lem uid 0 0 s (omega arith) h ∙ ap (eqb (uid % 16)) tail

told_heard : (b : Bool) → not (eqb (cond b 12 0) 0) ≡ b
told_heard true = refl
told_heard false = refl

pub card_heard_once : HeardOnce
unfolding HeardOnce is_heard calls first_round started started_of remade whole_mask
card_heard_once family room t o h s g =
    let stepped-in = in_step family room t o h s g in
    rw (stepped-in.1.0, stepped_told family (first_round family s) t stepped-in.0)
    (told_heard (calls family (first_round family s) t.card)
    ∙ ap (λ (b : Bool). answers family t.card && b) (digit_called t.card.uid s g))
