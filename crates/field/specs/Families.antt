-- 02, W2, on the card's event for a frame: what any request for an AFI makes of a card, its examples, and the rack of a shop that asks for a whole
-- family.
use Rattle.std.specs.Prelude.{ℕ, ◌+◌, ◌*◌, ◌/◌, ◌%◌, ◌^◌, ◌≤◌, ◌<◌, Bool, true, false, cond, List, [], ◌∷◌, ◌≡◌, eqb, length, replicate}
use Rattle.crc.specs.Check.{sealed}
use Rattle.frames.specs.Field.{field_of}
use Rattle.card.specs.declared.Card.{Card}
use Rattle.card.specs.declared.Sequence.TheVariants.{Running}
use Rattle.card.specs.Record.{cleared, in_sequence, with_afi}
use Rattle.play.specs.Events.{Outcome, frame_event}
use Rattle.play.specs.Life.{Tag}
use Rattle.play.specs.Examples.{Listens, blank, silence, presents}
use Rattle.field.specs.Field.{listens}
use Rattle.field.specs.Played.{played_for, fresh}
use Rattle.field.specs.Found.{BeginE0}
use Rattle.field.specs.Demand.{AllObey, Demand3}

-- an inventory request that names an AFI, but for the AFI: one slot or sixteen, the two radio bits, the mask's length, and "the mask in as few bytes as
-- hold it"
pub record Calling : Type 0 where
  pub one : Bool
  pub radio : ℕ
  pub bits : ℕ
  pub mask : List ℕ
  pub radio_fits : radio < 4
  pub bits_fit : bits ≤ cond one 64 60
  pub mask_fits : length mask ≡ (bits + 7) / 8

-- its frame: "b5 AFI present, b6 one slot"
abbrev pub calling : Calling → ℕ → List ℕ
calling q asked = sealed ((cond q.one 0x34 0x14 + q.radio) ∷ 0x01 ∷ asked ∷ q.bits ∷ q.mask)

-- "Bits above the mask length are ignored."
abbrev pub mask_in : Calling → ℕ
mask_in q = field_of q.mask % 2 ^ q.bits

-- a card that takes part: "With one slot only the mask counts."; "With sixteen slots a sequence starts at slot 0", which is answered when the "low
-- (length + 4) UID bits" are the mask, with 0 above it
unfoldable pub took_part : Calling → Card → List ℕ → List ℕ → List ℕ → Outcome
took_part q c memory locks found =
    cond q.one (presents (eqb (c.uid % 2 ^ q.bits) (mask_in q)) (cleared c) memory locks found)
    (presents (eqb (c.uid % 2 ^ (q.bits + 4)) (mask_in q)) (in_sequence (Running 0 q.bits (mask_in q)) (cleared c)) memory locks found)

-- any other: "silence and no sequence"
unfoldable pub passed_over : Card → List ℕ → List ℕ → List ℕ → Outcome
passed_over c memory locks found = silence (cleared c) memory locks found

-- a tag of this AFI that is not Quiet
pub record ListensOf (afi : ℕ) (t : Tag) : Type 0 where
  pub heard : listens t.card.mode ≡ true
  pub own : t.card.afi ≡ afi

pub record Families : Type 0 where
  -- there are such requests, 16 01 30 00 and 36 01 30 00 with their checks
  pub sixteen_slots : (q : Calling) × (calling q 0x30 ≡ sealed (0x16 ∷ 0x01 ∷ 0x30 ∷ 0x00 ∷ []))
  pub one_slot : (q : Calling) × (calling q 0x30 ≡ sealed (0x36 ∷ 0x01 ∷ 0x30 ∷ 0x00 ∷ []))
  -- and a card of AFI 31 that hears them
  pub a_31_listens : Listens (with_afi 0x31 false blank) (replicate 128 0x00) (replicate 32 0) (replicate 163 0x00)
  -- "30 asks 31 and 3F but not 41": whatever the slots and the mask; it asks 30 too
  pub asks_31 : (q : Calling) (c : Card) (memory locks found : List ℕ) → Listens c memory locks found → c.afi ≡ 0x31
      → frame_event c (calling q 0x30) memory locks found ≡ took_part q c memory locks found
  pub asks_3f : (q : Calling) (c : Card) (memory locks found : List ℕ) → Listens c memory locks found → c.afi ≡ 0x3f
      → frame_event c (calling q 0x30) memory locks found ≡ took_part q c memory locks found
  pub asks_30 : (q : Calling) (c : Card) (memory locks found : List ℕ) → Listens c memory locks found → c.afi ≡ 0x30
      → frame_event c (calling q 0x30) memory locks found ≡ took_part q c memory locks found
  pub not_41 : (q : Calling) (c : Card) (memory locks found : List ℕ) → Listens c memory locks found → c.afi ≡ 0x41
      → frame_event c (calling q 0x30) memory locks found ≡ passed_over c memory locks found
  -- "03 asks only 03": whatever the card's own is
  pub only_03 : (q : Calling) (c : Card) (memory locks found : List ℕ) → Listens c memory locks found
      → frame_event c (calling q 0x03) memory locks found
      ≡ cond (eqb 0x03 c.afi) (took_part q c memory locks found) (passed_over c memory locks found)
  -- "Shops give coarse burrs AFI 31, 32, 33 and ask the rack for family 30.": with a tool of AFI 41 among them, whatever its UID begins with, demand 3 holds of just these three
  pub coarse_burrs : (a b other c : Tag) → ListensOf 0x31 a → ListensOf 0x32 b → ListensOf 0x41 other → ListensOf 0x33 c
      → (list room : List ℕ) → AllObey (a ∷ b ∷ other ∷ c ∷ []) → BeginE0 (a.card.uid ∷ b.card.uid ∷ c.card.uid ∷ []) → 64 ≤ length list
      → 14 ≤ length room
      → Demand3 0x30 (a ∷ b ∷ other ∷ c ∷ []) (a.card.uid ∷ b.card.uid ∷ c.card.uid ∷ [])
      (played_for (16 * 417) (fresh 0x30 list room (a ∷ b ∷ other ∷ c ∷ [])))
