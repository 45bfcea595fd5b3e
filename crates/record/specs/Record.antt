-- The card's record as forty bytes that C lends, numbers "least significant byte first" (01, Check and byte order). Every byte has a meaning,
-- so that the refusals of 01 are enough.
use Rattle.std.specs.Prelude.{ℕ, Bool, true, false, cond, List, [], ◌∷◌, ◌++◌, ◌≡◌, eqb, ltb, length, get_or}
use Rattle.lent.specs.Lent.{over, placed}
use Rattle.frames.specs.Field.{field_at, field_bytes}
use Rattle.card.specs.declared.Card.{Card}
use Rattle.card.specs.declared.Mode.{Mode}
use Rattle.card.specs.declared.Mode.TheVariants.{Ready, Quiet, Selected}
use Rattle.card.specs.declared.Sequence.{Sequence}
use Rattle.card.specs.declared.Sequence.TheVariants.{Idle, Running}
use Rattle.card.specs.declared.Held.{Held}
use Rattle.card.specs.declared.Held.TheVariants.{Free, Success, Code}
use Rattle.record.specs.declared.bytes.Fields.{Fields}

-- the length of the record, in bytes
unfoldable pub record_length : ℕ
record_length = 40

-- ---- what the bytes mean

-- "a lock flag for each of the two": 0 is open, all else locked
unfoldable pub flag_of : ℕ → Bool
flag_of b = ltb 0 b

-- "the mode (Ready, Quiet, Selected)": 0, 1, all else
unfoldable pub mode_of : ℕ → Mode
mode_of b = cond (eqb b 0) Ready (cond (eqb b 1) Quiet Selected)

-- "a slot sequence that may be running": 0 is none, all else one; its slot, mask length and mask
unfoldable pub sequence_of : ℕ → ℕ → ℕ → ℕ → Sequence
sequence_of b slot n mask = cond (eqb b 0) Idle (Running slot n mask)

-- "an answer that may be held": 0 is none, 1 success, all else a code, which number 1 judges
unfoldable pub held_of : ℕ → Held
held_of b = cond (eqb b 0) Free (cond (eqb b 1) Success (Code b))

-- "The record holds the UID (64 bits), AFI, DSFID, a lock flag for each of the two, an IC reference, the mode (Ready, Quiet, Selected), a slot
-- sequence that may be running, and an answer that may be held."; before these, its shape
unfoldable pub card_of : List ℕ → Card
card_of bytes =
    record {
      blocks = field_at bytes 8 4;
      size = field_at bytes 12 4;
      uid = field_at bytes 0 8;
      afi = get_or bytes 16 0;
      dsfid = get_or bytes 17 0;
      afi_locked = flag_of (get_or bytes 18 0);
      dsfid_locked = flag_of (get_or bytes 19 0);
      ic_reference = get_or bytes 20 0;
      mode = mode_of (get_or bytes 21 0);
      sequence = sequence_of (get_or bytes 22 0) (get_or bytes 23 0) (get_or bytes 24 0) (field_at bytes 32 8);
      held = held_of (get_or bytes 25 0);
    }

-- bytes of another length are no record. They are read as none, so that each field is 0, and number 1 refuses a card of no blocks
unfoldable pub card_read : List ℕ → Card
card_read bytes = cond (eqb (length bytes) record_length) (card_of bytes) (card_of [])

-- ---- the bytes that a record becomes

unfoldable pub flag_byte : Bool → ℕ
flag_byte false = 0
flag_byte true = 1

unfoldable pub mode_byte : Mode → ℕ
mode_byte Ready = 0
mode_byte Quiet = 1
mode_byte Selected = 2

-- with no sequence, all four of its fields are 0
unfoldable pub fields_of : Sequence → Fields
fields_of Idle = record { running = 0; slot = 0; length = 0; mask = 0 }
fields_of (Running slot n mask) = record { running = 1; slot = slot; length = n; mask = mask }

unfoldable pub held_byte : Held → ℕ
held_byte Free = 0
held_byte Success = 1
held_byte (Code code) = code

-- bytes 16 to 25
unfoldable pub state_bytes : Card → List ℕ
state_bytes c =
    c.afi
    ∷ c.dsfid
    ∷ flag_byte c.afi_locked
    ∷ flag_byte c.dsfid_locked
    ∷ c.ic_reference
    ∷ mode_byte c.mode
    ∷ (fields_of c.sequence).running
    ∷ (fields_of c.sequence).slot
    ∷ (fields_of c.sequence).length
    ∷ held_byte c.held
    ∷ []

-- bytes 0 to 25
unfoldable pub front_bytes : Card → List ℕ
front_bytes c = field_bytes 8 c.uid ++ field_bytes 4 c.blocks ++ field_bytes 4 c.size ++ state_bytes c

-- the whole: bytes 26 to 31 as found, and the mask from byte 32 on
unfoldable pub record_of : Card → List ℕ → List ℕ
record_of c found = placed 32 (field_bytes 8 (fields_of c.sequence).mask) (over (front_bytes c) found)

-- bytes of another length are number 1, "card record", and stay as found
unfoldable pub write_number : List ℕ → ℕ
write_number found = cond (eqb (length found) record_length) 0 1

unfoldable pub write_leaves : Card → List ℕ → List ℕ
write_leaves c found = cond (eqb (length found) record_length) (record_of c found) found

-- what `write` promises: the number r of its result, and the bytes that it leaves
pub record Writes (c : Card) (found : List ℕ) (r : ℕ) (left : List ℕ) : Type 0 where
  pub number : r ≡ write_number found
  pub leaves : left ≡ write_leaves c found
