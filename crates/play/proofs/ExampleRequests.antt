-- An inventory request with sixteen slots and no AFI, on the call for a frame: it starts a sequence, or the card is silent. By the tests of
-- the definitions, with the check as it was appended. Assumes nothing.
use mathlib.Core.Path.{◌≡◌, refl, sym, ap, ◌∙◌}
use mathlib.Core.Bool.{Bool, true, false, ◌&&◌}
use mathlib.Core.List.{List, [], ◌∷◌, ◌++◌}
use Prim.Native.Nat.{ℕ, suc, ◌+◌, ◌%◌, ◌^◌, ◌≤◌, ◌<◌, zero, min}
use native.Mathlib.Omega.{arith}
use borrow.Author.Tests.{eq-eqb, le-leb, lt-leb}
use lib.ListN.{length, take, get_or, length-append}
use lib.Seq.{take_at}
use Rattle.crc.specs.Check.{sealed, check_bytes}
use Rattle.frames.specs.Flags.{flags_of}
use Rattle.frames.specs.Frame.{is_sound}
use Rattle.frames.specs.Field.{field_of, field_at}
use Rattle.frames.proofs.Sound.{sound_of_short}
use Rattle.slots.specs.Fits.{mask_bytes, fits_slot}
use Rattle.card.specs.declared.Card.{Card}
use Rattle.card.specs.declared.Reply.TheVariants.{Silence}
use Rattle.card.specs.declared.Turn.{Turn}
use Rattle.card.specs.declared.Sequence.TheVariants.{Running}
use Rattle.card.specs.Record.{is_quiet, remade, cleared, in_sequence}
use Rattle.card.specs.Inventory.{length_place, mask_limit, mask_of, total_length, takes_part, present, joins, is_inventory, inventoried}
use Rattle.card.specs.Frame.{heard_inventory}
use Rattle.commands.specs.declared.Effect.TheVariants.{Leave}
use Rattle.commands.specs.Frame.{decided}
use Rattle.commands.specs.Request.{deed, silent}
use Rattle.commands.proofs.Rules.{inventory_frame}
use Rattle.play.specs.Answer.{presence, reply_bytes}
use Rattle.play.specs.Effects.{memory_after, locks_after}
use Rattle.play.specs.Events.{length_told, answered, Outcome, replied, event, carried_out, frame_event}
use Rattle.play.proofs.Answers.{length_presence}
use Rattle.play.specs.Examples.{silence, speech, presents, in_slot, inventory}

-- eight bytes of mask at most
module _ (n : ℕ) (mask : List ℕ) (k : length mask ≡ mask_bytes n) (few : length mask ≤ 8) where
  inventory_sound : is_sound (inventory n mask) ≡ true
  inventory_sound = sound_of_short (0x06 ∷ 0x01 ∷ n ∷ mask) (omega arith) (omega arith)

  pub mask_taken : (rest : List ℕ) → take (min 8 (mask_bytes n)) (mask ++ rest) ≡ mask
  mask_taken rest = take_at mask rest (min 8 (mask_bytes n)) (omega (arith, k, few))

  inventory_long : suc (suc (suc (length (mask ++ check_bytes (0x06 ∷ 0x01 ∷ n ∷ mask))))) ≡ 3 + mask_bytes n + 2
  unfolding check_bytes
  inventory_long = omega (arith, k, length-append mask (check_bytes (0x06 ∷ 0x01 ∷ n ∷ mask)))

  -- a mask length within the limit starts a sequence
  pub inventory_taken : (c : Card) (locks : List ℕ) → is_quiet c.mode ≡ false → n ≤ 60
      → decided c locks (inventory n mask)
      ≡ deed (in_sequence (Running 0 n (field_of mask % 2 ^ n)) (cleared c)) Leave (present (fits_slot c.uid n (field_of mask % 2 ^ n) 0))
  unfolding decided inventoried is_inventory takes_part joins flags_of length_place mask_limit mask_of total_length field_at sealed cleared remade
  inventory_taken c locks heard h =
      rw (inventory_sound, heard, le-leb n 60 h, eq-eqb _ _ inventory_long, mask_taken)

  -- and one past it silences
  pub inventory_passed : (c : Card) (locks : List ℕ) → 60 < n → decided c locks (inventory n mask) ≡ silent (cleared c)
  unfolding decided inventoried is_inventory flags_of length_place mask_limit sealed
  inventory_passed c locks h = rw (inventory_sound, lt-leb n 60 h, last_fails)
    where
      last_fails : (a : Bool) → (a && false) ≡ false
      last_fails true = refl
      last_fails false = refl

-- ---- BC FA and BC 0A

padding_heard : (c : Card) → heard_inventory c (inventory 0x0c (0xbc ∷ 0xfa ∷ [])) ≡ heard_inventory c (inventory 0x0c (0xbc ∷ 0x0a ∷ []))
unfolding heard_inventory inventoried is_inventory takes_part joins flags_of length_place mask_limit mask_of mask_bytes total_length field_at field_of sealed check_bytes
padding_heard c = rw (inventory_sound 0x0c (0xbc ∷ 0xfa ∷ []) refl (omega arith), inventory_sound 0x0c (0xbc ∷ 0x0a ∷ []) refl (omega arith))

-- an inventory request's frame is no matter to memory
module _ (c : Card) (memory locks found : List ℕ) where
  abbrev turned : Turn → Outcome
  turned t = event c memory locks found (replied t.card memory locks t.reply found)

  frame_turned : (frame : List ℕ) → (flags_of (get_or frame 0 0)).b3 ≡ true → frame_event c frame memory locks found ≡ turned (heard_inventory c frame)
  unfolding frame_event carried_out memory_after locks_after
  frame_turned frame e = rw (inventory_frame c locks frame e)

  is_inventory_lem : (mask : List ℕ) → (flags_of (get_or (inventory 0x0c mask) 0 0)).b3 ≡ true
  unfolding sealed flags_of
  is_inventory_lem mask = refl

  pub padding_same : (s : ℕ)
      → in_slot c (inventory 0x0c (0xbc ∷ 0xfa ∷ [])) memory locks found s ≡ in_slot c (inventory 0x0c (0xbc ∷ 0x0a ∷ [])) memory locks found s
  unfolding in_slot
  padding_same zero =
      frame_turned _ (is_inventory_lem (0xbc ∷ 0xfa ∷ [])) ∙ ap turned (padding_heard c) ∙ sym (frame_turned _ (is_inventory_lem (0xbc ∷ 0x0a ∷ [])))
  padding_same (suc s) = rw (padding_same s)

-- ---- the answers on the calls

pub silence_served : (c : Card) (memory locks found : List ℕ) → replied c memory locks Silence found ≡ silence c memory locks found
unfolding replied reply_bytes length_told answered silence
silence_served c memory locks found = refl

pub presents_served : (c : Card) (memory locks found : List ℕ) (b : Bool) → replied c memory locks (present b) found ≡ presents b c memory locks found
unfolding replied reply_bytes present presence length_told answered presents speech silence
presents_served c memory locks found true = rw (length_presence c)
presents_served c memory locks found false = refl
