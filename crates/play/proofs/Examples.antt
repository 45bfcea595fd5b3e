-- 01's examples of the card, on its calls, under one statement (ExampleReads.antt, ExampleRequests.antt, ExampleSlots.antt). Assumes nothing.
use mathlib.Core.Path.{◌≡◌, refl, ◌∙◌}
use mathlib.Core.Bool.{◌&&◌}
use Prim.Native.Nat.{ℕ, ◌+◌, ◌*◌, ◌/◌, ◌%◌, ◌^◌, ◌<◌}
use native.Mathlib.Nat.{mod-lt}
use native.Mathlib.Decide.{ℕ_discrete}
use native.Mathlib.Omega.{arith}
use mathlib.Core.List.{List}
use borrow.Author.Tests.{eq-eqb, ne_eqb}
use lib.Dec.{eqb}
use lib.ListN.{length, replicate}
use lib.Pow.{pow_pos, mod-pow-add}
use Rattle.frames.specs.Field.{field_of}
use Rattle.slots.specs.Fits.{mask_bytes, fits_mask, fits_slot}
use Rattle.card.specs.declared.Card.{Card}
use Rattle.card.specs.declared.Sequence.TheVariants.{Running}
use Rattle.card.specs.Record.{is_quiet, shape_fits, sequence_fits, held_fits, is_accepted, cleared, in_sequence}
use Rattle.play.specs.Refusal.{lengths_fit, locks_fit, room_asked, room_fits, refusal}
use Rattle.play.specs.Events.{frame_event}
use Rattle.play.specs.Examples.{Listens, blank, silence, presents, inventory, CardExamples}
use Rattle.play.proofs.EventWays.{frame_served}
use Rattle.play.proofs.ExampleReads.{information_shown, last_read, last_read_with_lock, past_last_refused}
use Rattle.play.proofs.ExampleRequests.{inventory_taken, inventory_passed, silence_served, presents_served, padding_same}
use Rattle.play.proofs.ExampleSlots.{slots_heard}

some_card : Listens blank (replicate 128 0x00) (replicate 32 0) (replicate 163 0x00)
unfolding blank refusal is_accepted shape_fits sequence_fits held_fits lengths_fit locks_fit room_asked room_fits is_quiet
some_card = record { served = refl; heard = refl }

-- slot 0 of a mask of 60 bits: these are the UID's 64
own_mask : (uid mask : ℕ) → mask < 2 ^ 60 → fits_slot uid 0x3c mask 0 ≡ eqb (uid % 2 ^ 64) mask
unfolding fits_slot fits_mask
own_mask uid mask h = go (ℕ_discrete (uid % 2 ^ 60) mask) (ℕ_discrete (uid / 2 ^ 60 % 16) 0)
  where
    whole : uid % 2 ^ 64 ≡ (uid / 2 ^ 60 % 16) * 2 ^ 60 + uid % 2 ^ 60
    whole = mod-pow-add uid 4 60

    go : Dec (uid % 2 ^ 60 ≡ mask) → Dec (uid / 2 ^ 60 % 16 ≡ 0) → (eqb (uid % 2 ^ 60) mask && eqb (uid / 2 ^ 60 % 16) 0) ≡ eqb (uid % 2 ^ 64) mask
    go (yes e) (yes d) = rw (eq-eqb _ _ e, eq-eqb _ _ d, eq-eqb (uid % 2 ^ 64) mask (omega (arith, whole, e, d)))
    go (yes e) (no d) = rw (eq-eqb _ _ e, ne_eqb _ _ d, ne_eqb (uid % 2 ^ 64) mask (λ k. omega (arith, whole, d, k, h)))
    go (no e) (yes d) = rw (ne_eqb _ _ e, ne_eqb (uid % 2 ^ 64) mask (λ k. e (omega (arith, whole, d, k))))
    go (no e) (no d) = rw (ne_eqb _ _ e, ne_eqb (uid % 2 ^ 64) mask (λ k. omega (arith, whole, d, k, h)))

module _ (c : Card) (memory locks found : List ℕ) (listens : Listens c memory locks found) (mask : List ℕ) (eight : length mask ≡ 8) where
  taken_3c : frame_event c (inventory 0x3c mask) memory locks found
      ≡ presents (eqb (c.uid % 2 ^ 64) (field_of mask % 2 ^ 60)) (in_sequence (Running 0 0x3c (field_of mask % 2 ^ 60)) (cleared c)) memory locks found
  unfolding mask_bytes
  taken_3c =
      let next : Card = in_sequence (Running 0 0x3c (field_of mask % 2 ^ 60)) (cleared c) in
      frame_served c memory locks found (inventory 0x3c mask) listens.served next _
      (inventory_taken 0x3c mask eight (omega arith) c locks listens.heard (omega arith))
      ∙ rw (own_mask c.uid (field_of mask % 2 ^ 60) (mod-lt (field_of mask) (pow_pos 60))) (presents_served next memory locks found _)

  passed_3d : frame_event c (inventory 0x3d mask) memory locks found ≡ silence (cleared c) memory locks found
  unfolding mask_bytes
  passed_3d =
      frame_served c memory locks found (inventory 0x3d mask) listens.served _ _ (inventory_passed 0x3d mask eight (omega arith) c locks (omega arith))
      ∙ silence_served (cleared c) memory locks found

pub card_examples : CardExamples
card_examples =
    record {
      blank_listens = some_card;
      slot_5_only = λ c memory locks found listens is s h. slots_heard c memory locks is found listens.served listens.heard s h;
      padding_ignored = padding_same;
      length_3c = taken_3c;
      length_3d = passed_3d;
      shows_1f_03 = information_shown;
      last_block = last_read;
      last_block_with_lock = last_read_with_lock;
      past_last = past_last_refused;
    }
