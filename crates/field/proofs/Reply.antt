-- A card's answer to an inventory is read back: it is clean exactly if the UID fits mask and slot and begins with E0, and the UID is the card's.
-- By the round trips of the check and of a field. Assumes nothing.
use mathlib.Core.Path.{◌≡◌, refl, sym, ap, ◌∙◌}
use mathlib.Core.Bool.{true, ◌&&◌}
use Prim.Native.Nat.{ℕ, ◌^◌, ◌<◌}
use native.Mathlib.Omega.{arith}
use mathlib.Core.List.{List, ◌∷◌, ◌++◌}
use lib.ListN.{length, take, get_or}
use lib.Seq.{take-append_seam}
use Rattle.crc.specs.Check.{check_bytes, sealed, is_sealed}
use Rattle.crc.proofs.Seal.{length_sealed, is_sealed_of_sealed}
use Rattle.frames.specs.Field.{field_of, field_bytes, field_at}
use Rattle.frames.proofs.Fields.{length_field_bytes, field_of_bytes}
use Rattle.slots.specs.Fits.{fits_slot}
use Rattle.card.specs.declared.Card.{Card}
use Rattle.play.specs.Answer.{presence}
use Rattle.play.proofs.Answers.{length_presence}
use Rattle.walk.specs.declared.Walk.{Walk}
use Rattle.walk.specs.Record.{levels_of, mask_length, whole_mask}
use Rattle.walk.specs.Hear.{uid_of, starts_e0, is_clean}

-- the answer's bytes
unfoldable pub message : Card → List ℕ
message c = sealed (0x00 ∷ presence c)

pub message_bytes : (c : Card) → message c ≡ sealed (0x00 ∷ c.dsfid ∷ field_bytes 8 c.uid)
unfolding message presence
message_bytes c = refl

pub length_message : (c : Card) → length (message c) ≡ 12
unfolding message
length_message c = length_sealed (0x00 ∷ presence c) ∙ omega (arith, length_presence c)

pub message_uid : (c : Card) → c.uid < 2 ^ 64 → uid_of (message c) ≡ c.uid
unfolding uid_of field_at message sealed presence
message_uid c h =
    let bytes : List ℕ = field_bytes 8 c.uid in
    let rest : List ℕ = check_bytes (0x00 ∷ c.dsfid ∷ bytes) in
    let eight : 8 ≡ length bytes = sym (length_field_bytes 8 c.uid) in
    ap (λ (n : ℕ). field_of (take n (bytes ++ rest))) eight ∙ ap field_of (take-append_seam bytes rest) ∙ field_of_bytes 8 c.uid h

pub message_dsfid : (c : Card) → get_or (message c) 1 0 ≡ c.dsfid
unfolding message sealed presence
message_dsfid c = refl

message_flags : (c : Card) → get_or (message c) 0 0 ≡ 0x00
unfolding message sealed
message_flags c = refl

message_sealed : (c : Card) → is_sealed (message c) ≡ true
unfolding message
message_sealed c = is_sealed_of_sealed (0x00 ∷ presence c)

pub message_clean : (w : Walk) (c : Card) → c.uid < 2 ^ 64
    → is_clean w (message c) ≡ (fits_slot c.uid (mask_length w.level) (whole_mask w) w.slot && starts_e0 (levels_of w) c.uid)
unfolding is_clean
message_clean w c h = rw (length_message c, message_sealed c, message_flags c, message_uid c h)
