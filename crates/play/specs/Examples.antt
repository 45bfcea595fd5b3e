-- 01, Examples: those of the card, on its calls. Each frame has its check.
use Rattle.std.specs.Prelude.{ℕ, zero, suc, ◌%◌, ◌^◌, ◌≤◌, Bool, false, cond, List, [], ◌∷◌, ◌++◌, ◌≡◌, ltb, eqb, length, take, drop, get_or, replicate}
use Rattle.lent.specs.Lent.{over}
use Rattle.crc.specs.Check.{sealed}
use Rattle.frames.specs.Field.{field_of, field_bytes}
use Rattle.card.specs.declared.Card.{Card}
use Rattle.card.specs.declared.Mode.TheVariants.{Ready}
use Rattle.card.specs.declared.Sequence.TheVariants.{Idle, Running}
use Rattle.card.specs.declared.Held.TheVariants.{Free}
use Rattle.card.specs.Record.{is_quiet, cleared, in_sequence}
use Rattle.play.specs.Refusal.{refusal}
use Rattle.play.specs.Events.{Outcome, frame_event, mark_event}

-- a card that is not Quiet, with memory, lock bytes and room that no number refuses
pub record Listens (c : Card) (memory locks found : List ℕ) : Type 0 where
  pub served : refusal c (length memory) locks (length found) ≡ 0
  pub heard : is_quiet c.mode ≡ false

-- one that does: 32 blocks of 4, low UID bits 5ABC
unfoldable pub blank : Card
blank =
    record {
      blocks = 32;
      size = 4;
      uid = 0xe004010000005abc;
      afi = 0;
      dsfid = 0;
      afi_locked = false;
      dsfid_locked = false;
      ic_reference = 0;
      mode = Ready;
      sequence = Idle;
      held = Free;
    }

-- a call that is served in silence
unfoldable pub silence : Card → List ℕ → List ℕ → List ℕ → Outcome
silence c memory locks found = record { card = c; memory = memory; locks = locks; answer = found; number = 0; told = 0 }

-- and one with an answer: its length, and its bytes without the check
unfoldable pub speech : Card → List ℕ → List ℕ → List ℕ → ℕ → List ℕ → Outcome
speech c memory locks found n bytes =
    record { card = c; memory = memory; locks = locks; answer = over (sealed bytes) found; number = 0; told = n }

-- "Answer: 00, DSFID, UID, check.", where the test holds; else silence
unfoldable pub presents : Bool → Card → List ℕ → List ℕ → List ℕ → Outcome
presents test c memory locks found =
    cond test (speech c memory locks found 12 (0x00 ∷ c.dsfid ∷ field_bytes 8 c.uid)) (silence c memory locks found)

-- what the calls leave in slot s of an inventory request: the frame is slot 0, and each later slot a mark on what the one before it left
unfoldable pub in_slot : Card → List ℕ → List ℕ → List ℕ → List ℕ → ℕ → Outcome
in_slot c frame memory locks found zero = frame_event c frame memory locks found
in_slot c frame memory locks found (suc s) =
    let o : Outcome = in_slot c frame memory locks found s in
    mark_event o.card o.memory o.locks o.answer

-- an inventory request with sixteen slots and no AFI: mask length and mask bytes
abbrev pub inventory : ℕ → List ℕ → List ℕ
inventory n mask = sealed (0x06 ∷ 0x01 ∷ n ∷ mask)

pub record CardExamples : Type 0 where
  -- there is a card, a memory, lock bytes and a room of whom all of these speak
  pub blank_listens : Listens blank (replicate 128 0x00) (replicate 32 0) (replicate 163 0x00)
  -- "mask length 0C, bytes BC 0A, fits low bits 5ABC in slot 5 only": later slots find the answer of slot 5 in the room
  pub slot_5_only : (c : Card) (memory locks found : List ℕ) → Listens c memory locks found → c.uid % 2 ^ 16 ≡ 0x5abc → (s : ℕ) → s ≤ 15
      → in_slot c (inventory 0x0c (0xbc ∷ 0x0a ∷ [])) memory locks found s
      ≡ presents (eqb s 5) (in_sequence (Running s 0x0c 0xabc) (cleared c)) memory locks
      (cond (ltb 5 s) (over (sealed (0x00 ∷ c.dsfid ∷ field_bytes 8 c.uid)) found) found)
  -- "BC FA means the same": in every slot, for every card
  pub padding_ignored : (c : Card) (memory locks found : List ℕ) (s : ℕ)
      → in_slot c (inventory 0x0c (0xbc ∷ 0xfa ∷ [])) memory locks found s ≡ in_slot c (inventory 0x0c (0xbc ∷ 0x0a ∷ [])) memory locks found s
  -- "mask length 3C accepted with sixteen slots": a sequence starts with the mask's low 60 bits; slot 0 is answered where the UID is these
  pub length_3c : (c : Card) (memory locks found : List ℕ) → Listens c memory locks found → (mask : List ℕ) → length mask ≡ 8
      → frame_event c (inventory 0x3c mask) memory locks found
      ≡ presents (eqb (c.uid % 2 ^ 64) (field_of mask % 2 ^ 60)) (in_sequence (Running 0 0x3c (field_of mask % 2 ^ 60)) (cleared c)) memory locks found
  -- "3D silent"
  pub length_3d : (c : Card) (memory locks found : List ℕ) → Listens c memory locks found → (mask : List ℕ) → length mask ≡ 8
      → frame_event c (inventory 0x3d mask) memory locks found ≡ silence (cleared c) memory locks found
  -- "32 blocks of 4: 2B shows 1F 03"
  pub shows_1f_03 : (c : Card) (memory locks found : List ℕ) → Listens c memory locks found → c.blocks ≡ 32 → c.size ≡ 4
      → frame_event c (sealed (0x02 ∷ 0x2b ∷ [])) memory locks found
      ≡ speech (cleared c) memory locks found 17
      (0x00 ∷ 0x0f ∷ field_bytes 8 c.uid ++ c.dsfid ∷ c.afi ∷ 0x1f ∷ 0x03 ∷ c.ic_reference ∷ [])
  -- "reading 1F with n=0 answers": the last four bytes of memory; with Option the lock byte first
  pub last_block : (c : Card) (memory locks found : List ℕ) → Listens c memory locks found → c.blocks ≡ 32 → c.size ≡ 4
      → frame_event c (sealed (0x02 ∷ 0x23 ∷ 0x1f ∷ 0x00 ∷ [])) memory locks found
      ≡ speech (cleared c) memory locks found 7 (0x00 ∷ take 4 (drop 124 memory))
  pub last_block_with_lock : (c : Card) (memory locks found : List ℕ) → Listens c memory locks found → c.blocks ≡ 32 → c.size ≡ 4
      → frame_event c (sealed (0x42 ∷ 0x23 ∷ 0x1f ∷ 0x00 ∷ [])) memory locks found
      ≡ speech (cleared c) memory locks found 8 (0x00 ∷ get_or locks 31 0 ∷ take 4 (drop 124 memory))
  -- "n=1 is code 10"
  pub past_last : (c : Card) (memory locks found : List ℕ) → Listens c memory locks found → c.blocks ≡ 32 → c.size ≡ 4
      → frame_event c (sealed (0x02 ∷ 0x23 ∷ 0x1f ∷ 0x01 ∷ [])) memory locks found ≡ speech (cleared c) memory locks found 4 (0x01 ∷ 0x10 ∷ [])
