-- 01's example of a mask of 0C bits and a card of low bits 5ABC: the slots of its sequence, one after the other. By induction over the slots.
-- Assumes nothing.
use mathlib.Core.Path.{◌≡◌, refl, sym, ap, ◌∙◌}
use mathlib.Core.Bool.{Bool, true, false, cond, ◌&&◌}
use mathlib.Core.List.{List, [], ◌∷◌}
use Prim.Native.Nat.{ℕ, zero, suc, ◌/◌, ◌%◌, ◌^◌, ◌≤◌, ◌<◌}
use native.Mathlib.Decide.{ℕ_discrete}
use native.Mathlib.Numerals.{add-one}
use native.Mathlib.Omega.{arith}
use borrow.Author.Tests.{eq-eqb, ne_eqb, lt-ltb, le-leb}
use lib.Dec.{ltb, eqb}
use lib.ListN.{length}
use lib.Pow.{mod-mod-pow, field}
use Rattle.lent.specs.Lent.{over}
use Rattle.lent.proofs.Over.{length_over}
use Rattle.crc.specs.Check.{sealed}
use Rattle.crc.proofs.Seal.{length_sealed}
use Rattle.frames.specs.Field.{field_of, field_bytes}
use Rattle.frames.proofs.Fields.{length_field_bytes}
use Rattle.slots.specs.Fits.{mask_bytes, fits_mask, fits_slot}
use Rattle.card.specs.declared.Card.{Card}
use Rattle.card.specs.declared.Sequence.TheVariants.{Running}
use Rattle.card.specs.Record.{is_quiet, shape_fits, sequence_fits, held_fits, is_accepted, remade, cleared, in_sequence}
use Rattle.card.specs.Inventory.{present}
use Rattle.card.specs.Mark.{marked, released, moved}
use Rattle.play.specs.Refusal.{lengths_fit, locks_fit, room_asked, room_fits, refusal}
use Rattle.play.specs.Events.{Outcome, frame_event, mark_event}
use Rattle.play.specs.Examples.{silence, speech, presents, in_slot, inventory}
use Rattle.play.proofs.EventWays.{event_served, frame_served}
use Rattle.play.proofs.ExampleRequests.{inventory_taken, presents_served}
use Rattle.play.proofs.ReadyFor.{ready_of}
use Rattle.play.proofs.Room.{room_of}

-- "mask length 0C, bytes BC 0A"
abbrev request : List ℕ
request = inventory 0x0c (0xbc ∷ 0x0a ∷ [])

module _ (c : Card) (memory locks : List ℕ) where
  -- the card in a slot of the sequence
  abbrev stands : ℕ → Card
  stands s = in_sequence (Running s 0x0c 0xabc) (cleared c)

  -- it is refused no more than at the start
  still_served : (room s : ℕ) → s ≤ 15 → refusal c (length memory) locks room ≡ 0 → refusal (stands s) (length memory) locks room ≡ 0
  unfolding refusal is_accepted sequence_fits held_fits lengths_fit room_asked room_fits in_sequence cleared remade
  still_served room s h e =
      rw (le-leb s 15 h)
      (go (shape_fits c.blocks c.size) (sequence_fits c.sequence) (held_fits c.held) (lengths_fit c (length memory) (length locks))
      (locks_fit locks) (room_fits c room) e)
    where
      go : (shape sequence held lengths bytes room : Bool)
          → ◌≡◌ {A = ℕ} (cond (shape && (sequence && held)) (cond lengths (cond bytes (cond room 0 4) 3) 2) 1) 0
          → ◌≡◌ {A = ℕ} (cond (shape && true) (cond lengths (cond bytes (cond room 0 4) 3) 2) 1) 0
      go true true true lengths bytes room e = e
      go true true false lengths bytes room e = absurd (omega arith)
      go true false held lengths bytes room e = absurd (omega arith)
      go false sequence held lengths bytes room e = absurd (omega arith)

  -- the inventory answer
  abbrev says : List ℕ
  says = sealed (0x00 ∷ c.dsfid ∷ field_bytes 8 c.uid)

  -- what a slot leaves
  abbrev left : Bool → ℕ → List ℕ → Outcome
  left b s found =
      record { card = stands s; memory = memory; locks = locks; answer = cond b (over says found) found; number = 0; told = cond b 12 0 }

  presents_left : (b : Bool) (s : ℕ) (found : List ℕ) → presents b (stands s) memory locks found ≡ left b s found
  unfolding presents speech silence in_sequence cleared remade
  presents_left true s found = refl
  presents_left false s found = refl

  module _ (is : c.uid % 2 ^ 16 ≡ 0x5abc) where
    fits_5 : (s : ℕ) → fits_slot c.uid 0x0c 0xabc s ≡ eqb s 5
    unfolding fits_mask fits_slot
    fits_5 s =
        let mask : c.uid % 4096 ≡ 0xabc = sym (mod-mod-pow c.uid 4 12) ∙ ap (λ (x : ℕ). x % 4096) is in
        let digit : c.uid / 4096 % 16 ≡ 5 = sym (field c.uid 4 12) ∙ ap (λ (x : ℕ). x / 4096) is in
        rw (eq-eqb (c.uid % 4096) 0xabc mask, digit) (go (ℕ_discrete s 5))
      where
        go : Dec (s ≡ 5) → eqb 5 s ≡ eqb s 5
        go (yes e) = rw e
        go (no e) = rw (ne_eqb s 5 e, ne_eqb 5 s (λ h. e (sym h)))

    -- slot s is over, and the next one begins with a mark
    mark_turned : (s : ℕ) → s < 15 → marked (stands s) ≡ record { card = stands (suc s); reply = present (eqb (suc s) 5) }
    unfolding marked released moved in_sequence cleared remade
    mark_turned s h = rw (lt-ltb s 15 h, add-one, ← (fits_5 (suc s)))

    module _ (found : List ℕ) (served : refusal c (length memory) locks (length found) ≡ 0) where
      -- the room as slot s finds it: the answer stands in it after slot 5
      abbrev room : ℕ → List ℕ
      room s = cond (ltb 5 s) (over says found) found

      late : (s : ℕ) → 6 ≤ s → cond (eqb s 5) (over says (room s)) (room s) ≡ room (suc s)
      late s h = rw (ne_eqb s 5 (omega arith), lt-ltb 5 s (omega arith), lt-ltb 5 (suc s) (omega arith))

      next_room : (s : ℕ) → cond (eqb s 5) (over says (room s)) (room s) ≡ room (suc s)
      next_room zero = refl
      next_room (suc zero) = refl
      next_room (suc (suc zero)) = refl
      next_room (suc (suc (suc zero))) = refl
      next_room (suc (suc (suc (suc zero)))) = refl
      next_room (suc (suc (suc (suc (suc zero))))) = refl
      next_room (suc (suc (suc (suc (suc (suc s)))))) = late (suc (suc (suc (suc (suc (suc s)))))) (omega arith)

      room_length : (s : ℕ) → length (room s) ≡ length found
      room_length s = go (ltb 5 s)
        where
          long : length (over says found) ≡ length found
          long =
              length_over says found
              (omega (
                arith,
                length_sealed (0x00 ∷ c.dsfid ∷ field_bytes 8 c.uid),
                length_field_bytes 8 c.uid,
                (room_of c (length found) (ready_of c (length memory) locks (length found) served).fits).least,
              ))

          go : (b : Bool) → length (cond b (over says found) found) ≡ length found
          go true = long
          go false = refl

      abbrev slot : ℕ → Outcome
      slot s = presents (eqb s 5) (stands s) memory locks (room s)

      -- a mark on what slot s left
      next_slot : (s : ℕ) → s < 15 → mark_event (stands s) memory locks (room (suc s)) ≡ slot (suc s)
      unfolding mark_event
      next_slot s h =
          event_served (stands s) memory locks (room (suc s)) _ _ refl
          (rw (room_length (suc s)) (still_served (length found) s (omega arith) served))
          ∙ rw (mark_turned s h) (presents_served (stands (suc s)) memory locks (room (suc s)) (eqb (suc s) 5))

      -- the request opens slot 0
      first_slot : is_quiet c.mode ≡ false → frame_event c request memory locks found ≡ slot 0
      unfolding mask_bytes field_of
      first_slot heard =
          frame_served c memory locks found request served (stands 0) (present (fits_slot c.uid 0x0c 0xabc 0))
          (inventory_taken 0x0c (0xbc ∷ 0x0a ∷ []) refl (omega arith) c locks heard (omega arith))
          ∙ rw (fits_5 0) (presents_served (stands 0) memory locks found false)

      pub slots_heard : is_quiet c.mode ≡ false → (s : ℕ) → s ≤ 15 → in_slot c request memory locks found s ≡ slot s
      unfolding in_slot
      slots_heard heard zero h = first_slot heard
      slots_heard heard (suc s) h =
          rw (slots_heard heard s (omega arith), presents_left (eqb s 5) s (room s), next_room s) (next_slot s (omega arith))
