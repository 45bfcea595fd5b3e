-- A card in step is accepted, says the same message, and is no other card once cleared; a call over it is not refused.
-- By the card's two ways to be in step. Assumes nothing.
use mathlib.Core.Path.{◌≡◌, refl, ap, ◌∙◌}
use mathlib.Core.Bool.{Bool, true, false, cond}
use Prim.Native.Nat.{ℕ, ◌^◌, ◌≤◌, ◌<◌}
use native.Mathlib.Omega.{arith}
use mathlib.Core.List.{List, [], ◌∷◌}
use borrow.Author.Tests.{le-leb, lt-ltb}
use lib.ListN.{length}
use Rattle.card.specs.declared.Card.{Card}
use Rattle.card.specs.declared.Sequence.TheVariants.{Running}
use Rattle.card.specs.Record.{sequence_fits, held_fits, is_accepted, remade, cleared, in_sequence}
use Rattle.card.proofs.Accepted.{tests_of}
use Rattle.play.specs.Refusal.{lengths_fit, locks_fit, room_asked, room_fits, refusal}
use Rattle.play.specs.Answer.{presence}
use Rattle.play.proofs.Refusals.{Passes, passes_of, refusal_none}
use Rattle.play.proofs.Room.{room_of}
use Rattle.walk.specs.Record.{mask_length}
use Rattle.play.specs.Life.{Tag}
use Rattle.field.specs.Field.{Obeys, answers}
use Rattle.field.proofs.InTime.{in_step, Follows, AtSlot}
use Rattle.field.proofs.Reply.{message}
use Rattle.field.proofs.Requested.{mask_length_most}

-- ---- the refusals

pub served_accepted : (c : Card) (memory : ℕ) (locks : List ℕ) (room : ℕ) → refusal c memory locks room ≡ 0 → is_accepted c ≡ true
served_accepted c memory locks room e = (passes_of c memory locks room e).accepted

pub served_room : (c : Card) (memory : ℕ) (locks : List ℕ) (room : ℕ) → refusal c memory locks room ≡ 0 → 32 ≤ room
served_room c memory locks room e = (room_of c room (passes_of c memory locks room e).space).least

-- an accepted card of the same shape is served too
pub served_same : (c card : Card) (memory : ℕ) (locks : List ℕ) (room : ℕ) → card.blocks ≡ c.blocks → card.size ≡ c.size → is_accepted card ≡ true
    → refusal c memory locks room ≡ 0 → refusal card memory locks room ≡ 0
unfolding lengths_fit room_fits room_asked
served_same c card memory locks room a b accepted e =
    let p : Passes c memory locks room = passes_of c memory locks room e in
    refusal_none card memory locks room
    (record { accepted = accepted; lengths = rw (a, b) p.lengths; marks = p.marks; space = rw (a, b) p.space })

-- a card of one byte, not locked, is served
pub byte_served : (c : Card) (room : ℕ) → is_accepted c ≡ true → c.blocks ≡ 1 → c.size ≡ 1 → 32 ≤ room → refusal c 1 (0 ∷ []) room ≡ 0
unfolding refusal lengths_fit locks_fit room_fits room_asked
byte_served c room accepted blocks size h = rw (accepted, blocks, size, le-leb 32 room h)

-- ---- the card in step

pub step_cleared : (family level mask s : ℕ) (c : Card) → cleared (in_step family level mask s c) ≡ cleared c
unfolding in_step cleared in_sequence remade
step_cleared family level mask s c = go (answers family c)
  where
    go : (b : Bool) → cleared (cond b (in_sequence (Running s (mask_length level) mask) (cleared c)) (cleared c)) ≡ cleared c
    go true = refl
    go false = refl

pub step_message : (family level mask s : ℕ) (c : Card) → message (in_step family level mask s c) ≡ message c
unfolding message presence in_step cleared in_sequence remade
step_message family level mask s c = go (answers family c)
  where
    go : (b : Bool) → message (cond b (in_sequence (Running s (mask_length level) mask) (cleared c)) (cleared c)) ≡ message c
    go true = refl
    go false = refl

pub step_accepted : (family level mask s : ℕ) (c : Card) → level < 16 → s < 16 → mask < 2 ^ mask_length level → is_accepted c ≡ true
    → is_accepted (in_step family level mask s c) ≡ true
unfolding in_step is_accepted sequence_fits held_fits cleared in_sequence remade
step_accepted family level mask s c h g f e = go (answers family c)
  where
    go : (b : Bool) → is_accepted (cond b (in_sequence (Running s (mask_length level) mask) (cleared c)) (cleared c)) ≡ true
    go true =
        rw (
          (tests_of c e).shape,
          le-leb s 15 (omega arith),
          le-leb (mask_length level) 60 (mask_length_most level h),
          lt-ltb mask (2 ^ mask_length level) f,
        )
    go false = rw (tests_of c e).shape

-- cards that are the same once cleared have the same shape
pub cleared_blocks : (c card : Card) → cleared card ≡ cleared c → card.blocks ≡ c.blocks
unfolding cleared remade
cleared_blocks c card e = ap (λ (x : Card). x.blocks) e

pub cleared_size : (c card : Card) → cleared card ≡ cleared c → card.size ≡ c.size
unfolding cleared remade
cleared_size c card e = ap (λ (x : Card). x.size) e

-- ---- a tag between two rounds

pub slot_follows : (family level mask s : ℕ) (t₀ t : Tag) → level < 16 → s < 16 → mask < 2 ^ mask_length level → Obeys t₀
    → AtSlot family level mask s t₀ t → Follows t₀ t
slot_follows family level mask s t₀ t h g f o a =
    let c : Card = t₀.card in
    let served : is_accepted c ≡ true = served_accepted c (length t₀.memory) t₀.locks (length t₀.room) o.accepted in
    record {
      card = ap cleared a.card ∙ step_cleared family level mask s c;
      memory = a.memory;
      locks = a.locks;
      room = a.room;
      accepted = ap is_accepted a.card ∙ step_accepted family level mask s c h g f served;
    }

pub self_follows : (t : Tag) → Obeys t → Follows t t
self_follows t o =
    record {
      card = refl;
      memory = refl;
      locks = refl;
      room = refl;
      accepted = served_accepted t.card (length t.memory) t.locks (length t.room) o.accepted;
    }
