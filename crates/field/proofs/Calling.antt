-- Any request for an AFI, on the card's event: a card takes part exactly if it answers that AFI, else it is silent with no sequence. By the tests of the
-- card's steps 1 to 3, and Table 1. Assumes nothing.
use mathlib.Core.Path.{◌≡◌, refl, sym, ap, ap₂, ◌∙◌}
use mathlib.Core.Bool.{Bool, true, false, cond, not, ◌&&◌, and-true}
use Prim.Native.Nat.{ℕ, suc, ◌+◌, ◌*◌, ◌/◌, ◌%◌, ◌^◌, ◌≤◌, ◌<◌}
use native.Mathlib.Nat.{add_comm, mod-lt}
use native.Mathlib.Omega.{arith}
use mathlib.Core.List.{List, ◌∷◌, ◌++◌}
use borrow.Author.Tests.{eq-eqb, ne_eqb, le-leb}
use lib.Dec.{eqb}
use lib.ListN.{length, length-append}
use lib.Pow.{pow_pos, mod-pow-add}
use Rattle.crc.specs.Check.{check_bytes, sealed}
use Rattle.frames.specs.declared.Flags.{Flags}
use Rattle.frames.specs.Flags.{flags_of}
use Rattle.frames.specs.Field.{field_of, field_at}
use Rattle.frames.specs.Frame.{is_sound}
use Rattle.frames.proofs.Sound.{sound_of_short}
use Rattle.tails.proofs.Digits.{parts_fit}
use Rattle.slots.specs.Fits.{mask_bytes, fits_mask, fits_slot}
use Rattle.card.specs.declared.Card.{Card}
use Rattle.card.specs.declared.Sequence.TheVariants.{Running}
use Rattle.card.specs.declared.Reply.TheVariants.{Silence}
use Rattle.card.specs.declared.Turn.{Turn}
use Rattle.card.specs.Record.{is_quiet, remade, cleared, in_sequence}
use Rattle.card.specs.Inventory.{turn, still, length_place, mask_limit, mask_of, total_length, fits_family, takes_part, present, joins, is_inventory, inventoried}
use Rattle.commands.specs.Frame.{leaving, decided}
use Rattle.commands.specs.Request.{silent}
use Rattle.play.specs.Refusal.{refusal}
use Rattle.play.specs.Events.{replied, frame_event}
use Rattle.play.specs.Examples.{presents}
use Rattle.play.proofs.EventWays.{frame_served}
use Rattle.play.proofs.ExampleRequests.{mask_taken, silence_served, presents_served}
use Rattle.field.specs.Field.{answers}
use Rattle.field.specs.Families.{Calling, calling, took_part, passed_over}
use Rattle.field.proofs.Requested.{card_answers}

-- ---- slot 0

-- the mask with 0 above it: these are the low bits, four more than the mask's
slot_0 : (uid n mask : ℕ) → mask < 2 ^ n → fits_slot uid n mask 0 ≡ eqb (uid % 2 ^ (n + 4)) mask
unfolding fits_slot fits_mask
slot_0 uid n mask h =
    let digit : ℕ = uid / 2 ^ n % 16 in
    let whole : uid % 2 ^ (n + 4) ≡ uid % 2 ^ n + digit * 2 ^ n =
    ap (λ (m : ℕ). uid % 2 ^ m) (add_comm n 4) ∙ mod-pow-add uid 4 n ∙ add_comm (digit * 2 ^ n) (uid % 2 ^ n)
    in
    let alone : mask ≡ mask + 0 * 2 ^ n = omega arith in
    sym (ap₂ eqb whole alone ∙ parts_fit (2 ^ n) (uid % 2 ^ n) digit mask 0 (mod-lt uid (pow_pos n)) h)

-- ---- its flags, as they are read

record Read (one : Bool) (f : Flags) : Type 0 where
  b3 : f.b3 ≡ true
  b4 : f.b4 ≡ false
  b5 : f.b5 ≡ true
  b6 : f.b6 ≡ one
  b7 : f.b7 ≡ false
  b8 : f.b8 ≡ false

flags_read : (one : Bool) (radio : ℕ) → radio < 4 → Read one (flags_of (cond one 0x34 0x14 + radio))
unfolding flags_of
flags_read true radio h =
    record {
      b3 = eq-eqb ((0x34 + radio) / 4 % 2) 1 (omega arith);
      b4 = ne_eqb ((0x34 + radio) / 8 % 2) 1 (omega arith);
      b5 = eq-eqb ((0x34 + radio) / 16 % 2) 1 (omega arith);
      b6 = eq-eqb ((0x34 + radio) / 32 % 2) 1 (omega arith);
      b7 = ne_eqb ((0x34 + radio) / 64 % 2) 1 (omega arith);
      b8 = ne_eqb ((0x34 + radio) / 128 % 2) 1 (omega arith);
    }
flags_read false radio h =
    record {
      b3 = eq-eqb ((0x14 + radio) / 4 % 2) 1 (omega arith);
      b4 = ne_eqb ((0x14 + radio) / 8 % 2) 1 (omega arith);
      b5 = eq-eqb ((0x14 + radio) / 16 % 2) 1 (omega arith);
      b6 = ne_eqb ((0x14 + radio) / 32 % 2) 1 (omega arith);
      b7 = ne_eqb ((0x14 + radio) / 64 % 2) 1 (omega arith);
      b8 = ne_eqb ((0x14 + radio) / 128 % 2) 1 (omega arith);
    }

-- ---- what is decided on it

-- on a turn of two it is one of the two
either_leaves : (b : Bool) (t u : Turn) → leaving (cond b t u) ≡ cond b (leaving t) (leaving u)
either_leaves true t u = refl
either_leaves false t u = refl

-- the most that either kind takes
most_bits : (one : Bool) (n : ℕ) → n ≤ cond one 64 60 → n ≤ 64
most_bits true n h = h
most_bits false n h = omega arith

module _ (radio n : ℕ) (mask : List ℕ) (r : radio < 4) (k : length mask ≡ mask_bytes n) (asked : ℕ) (c : Card) where
  abbrev body : Bool → List ℕ
  body one = (cond one 0x34 0x14 + radio) ∷ 0x01 ∷ asked ∷ n ∷ mask

  module _ (one : Bool) (h : n ≤ cond one 64 60) where
    few : length mask ≤ 8
    unfolding mask_bytes
    few = omega (arith, k, most_bits one n h)

    calling_sound : is_sound (sealed (body one)) ≡ true
    calling_sound = sound_of_short (body one) (omega arith) (omega (arith, few))

    calling_long : suc (suc (suc (suc (length (mask ++ check_bytes (body one)))))) ≡ 4 + mask_bytes n + 2
    unfolding check_bytes
    calling_long = omega (arith, k, length-append mask (check_bytes (body one)))

  -- a card that takes part
  unfoldable joining : Bool → Turn
  joining true = turn (cleared c) (present (fits_mask c.uid n (field_of mask % 2 ^ n)))
  joining false = turn (in_sequence (Running 0 n (field_of mask % 2 ^ n)) (cleared c)) (present (fits_slot c.uid n (field_of mask % 2 ^ n) 0))

  calling_decided : (one : Bool) → n ≤ cond one 64 60 → (locks : List ℕ)
      → decided c locks (sealed (body one))
      ≡ cond (not (is_quiet c.mode) && fits_family asked c.afi) (leaving (joining one)) (silent (cleared c))
  unfolding decided inventoried is_inventory takes_part joins length_place mask_limit mask_of total_length field_at sealed cleared remade joining
  calling_decided true h locks =
      let f : Read true (flags_of (0x34 + radio)) = flags_read true radio r in
      rw (calling_sound true h, f.b3, f.b4, f.b5, f.b6, f.b7, f.b8, le-leb n 64 h, eq-eqb _ _ (calling_long true h), mask_taken n mask k (few true h), and-true (not (is_quiet c.mode)))
      (either_leaves (not (is_quiet c.mode) && fits_family asked c.afi) _ (still (cleared c)))
  calling_decided false h locks =
      let f : Read false (flags_of (0x14 + radio)) = flags_read false radio r in
      rw (calling_sound false h, f.b3, f.b4, f.b5, f.b6, f.b7, f.b8, le-leb n 60 h, eq-eqb _ _ (calling_long false h), mask_taken n mask k (few false h), and-true (not (is_quiet c.mode)))
      (either_leaves (not (is_quiet c.mode) && fits_family asked c.afi) _ (still (cleared c)))

  -- its answer
  joining_served : (one : Bool) (memory locks found : List ℕ)
      → replied (joining one).card memory locks (joining one).reply found
      ≡ cond one (presents (eqb (c.uid % 2 ^ n) (field_of mask % 2 ^ n)) (cleared c) memory locks found)
      (presents (eqb (c.uid % 2 ^ (n + 4)) (field_of mask % 2 ^ n)) (in_sequence (Running 0 n (field_of mask % 2 ^ n)) (cleared c)) memory locks found)
  unfolding joining fits_mask
  joining_served true memory locks found = presents_served (cleared c) memory locks found _
  joining_served false memory locks found =
      rw (slot_0 c.uid n (field_of mask % 2 ^ n) (mod-lt (field_of mask) (pow_pos n)))
      (presents_served (in_sequence (Running 0 n (field_of mask % 2 ^ n)) (cleared c)) memory locks found _)

-- ---- on the event

module _ (q : Calling) (asked : ℕ) (c : Card) (memory locks found : List ℕ) (served : refusal c (length memory) locks (length found) ≡ 0) where
  -- by the card's own tests
  pub calling_served : (b : Bool) → (not (is_quiet c.mode) && fits_family asked c.afi) ≡ b
      → frame_event c (calling q asked) memory locks found ≡ cond b (took_part q c memory locks found) (passed_over c memory locks found)
  unfolding took_part passed_over mask_bytes
  calling_served b e = go b (calling_decided q.radio q.bits q.mask q.radio_fits q.mask_fits asked c q.one q.bits_fit locks ∙ rw e)
    where
      turned : Turn
      turned = joining q.radio q.bits q.mask q.radio_fits q.mask_fits asked c q.one

      go : (b : Bool) → decided c locks (calling q asked) ≡ cond b (leaving turned) (silent (cleared c))
          → frame_event c (calling q asked) memory locks found ≡ cond b (took_part q c memory locks found) (passed_over c memory locks found)
      go true d =
          frame_served c memory locks found (calling q asked) served turned.card turned.reply d
          ∙ joining_served q.radio q.bits q.mask q.radio_fits q.mask_fits asked c q.one memory locks found
      go false d = frame_served c memory locks found (calling q asked) served (cleared c) Silence d ∙ silence_served (cleared c) memory locks found

  -- so by Table 1
  pub family_requested : asked < 256
      → frame_event c (calling q asked) memory locks found ≡ cond (answers asked c) (took_part q c memory locks found) (passed_over c memory locks found)
  family_requested h = calling_served (answers asked c) (card_answers asked h c)
