-- The part of the card's reply to each request has the length that the request earns, and what is read from it is what the card holds.
-- Command by command: 20, 23, 2B, 2C, and those that tell success alone. Assumes nothing.
use mathlib.Core.Path.{◌≡◌, refl}
use mathlib.Core.Bool.{Bool, true, false, or-false}
use mathlib.Core.List.{List, [], ◌∷◌}
use Prim.Native.Nat.{ℕ, ◌+◌, ◌-◌, ◌*◌, ◌≤◌, ◌<◌, ◌^◌}
use native.Mathlib.Nat.{mul-le-mul_right, one-mul}
use native.Mathlib.Decide.{ℕ_discrete}
use native.Mathlib.Omega.{arith}
use borrow.Author.Tests.{leb-false, eqb-false, ne_eqb}
use lib.Dec.{leb, eqb}
use lib.ListN.{length, drop, get_or, length-drop}
use lib.Seq.{length-take-le}
use Rattle.frames.specs.Field.{field_bytes, field_at}
use Rattle.frames.proofs.Fields.{field_of_bytes}
use Rattle.card.specs.declared.Card.{Card}
use Rattle.play.specs.Answer.{blocks_read, locks_read, information, reply_bytes}
use Rattle.reader.specs.declared.Request.{Request}
use Rattle.reader.specs.Request.{has_option}
use Rattle.reader.specs.Reading.{reads_blocks, count, lead_of, block_bytes, lock_bytes, earned, information_in, reading_in, block_bytes_in, lock_bytes_in}
use Rattle.reader.specs.Shown.{moves_blocks, is_outside, blocks_held, locks_held, information_held, reading_held, bytes_held, marks_held}
use Rattle.reader.proofs.Asked.{reply_to}
use Rattle.reader.proofs.Apart.{length_read, blocks_of_card, leads_of_card}

-- ---- what a command tells: one block, several, the system's information, lock bytes, or success alone

pub data Kind (command : ℕ) : Type 0 where
  One : command ≡ 0x20 → Kind command
  Several : command ≡ 0x23 → Kind command
  System : command ≡ 0x2b → Kind command
  Locks : command ≡ 0x2c → Kind command
  Plain : eqb command 0x20 ≡ false → eqb command 0x23 ≡ false → eqb command 0x2b ≡ false → eqb command 0x2c ≡ false → Kind command

pub kind : (command : ℕ) → Kind command
kind k = go (ℕ_discrete k 0x20) (ℕ_discrete k 0x23) (ℕ_discrete k 0x2b) (ℕ_discrete k 0x2c)
  where
    go : Dec (k ≡ 0x20) → Dec (k ≡ 0x23) → Dec (k ≡ 0x2b) → Dec (k ≡ 0x2c) → Kind k
    go (yes e) b c d = One e
    go (no a) (yes e) c d = Several e
    go (no a) (no b) (yes e) d = System e
    go (no a) (no b) (no c) (yes e) = Locks e
    go (no a) (no b) (no c) (no d) = Plain (ne_eqb k 0x20 a) (ne_eqb k 0x23 b) (ne_eqb k 0x2b c) (ne_eqb k 0x2c d)

module _ (c : Card) (memory locks : List ℕ) (q : Request) where
  abbrev option : Bool
  option = has_option q

  -- the part of a reply, of the length that was earned, and what is read from it
  pub record Tells (part : List ℕ) : Type 0 where
    pub reply : reply_bytes c memory locks (reply_to q) ≡ 0x00 ∷ part
    pub long : length part + 3 ≡ earned q
    pub all : q.command ≡ 0x2b → get_or part 0 0 ≡ 0x0f
    pub read : reading_in q part ≡ reading_held c q
    pub blocks : block_bytes_in q part ≡ bytes_held memory q
    pub marked : lock_bytes_in q part ≡ marks_held locks q

  pub tells_plain : eqb q.command 0x20 ≡ false → eqb q.command 0x23 ≡ false → eqb q.command 0x2b ≡ false → eqb q.command 0x2c ≡ false → Tells []
  unfolding reply_to reply_bytes earned reads_blocks reading_in reading_held block_bytes_in bytes_held lock_bytes_in marks_held
  tells_plain a b d e =
      record {
        reply = rw (a, b, d, e) refl;
        long = rw (a, b, e, d) refl;
        all = λ f. absurd (eqb-false q.command 0x2b d f);
        read = rw (a, b, e, d) refl;
        blocks = rw (a, b) refl;
        marked = rw (a, b, e) refl;
      }

  tells_system : 1 ≤ c.blocks → 1 ≤ c.size → c.uid < 2 ^ 64 → q.command ≡ 0x2b → Tells (information c)
  unfolding reply_to reply_bytes earned reads_blocks reading_in reading_held block_bytes_in bytes_held lock_bytes_in marks_held information information_in information_held field_bytes field_at
  tells_system some sized wide e =
      let blocks : c.blocks - 1 + 1 ≡ c.blocks = omega arith in
      let size : c.size - 1 + 1 ≡ c.size = omega arith in
      record {
        reply = rw e refl;
        long = rw e refl;
        all = λ f. refl;
        read = rw (e, field_of_bytes 8 c.uid wide, blocks, size) refl;
        blocks = rw e refl;
        marked = rw e refl;
      }

  -- ---- blocks and lock bytes, where the card has all that are asked for

  -- the last of them is one of the card's
  one_inside : is_outside c q ≡ false → q.command ≡ 0x20 → q.first + 1 ≤ c.blocks
  unfolding is_outside
  one_inside outside e =
      let within : leb c.blocks q.first ≡ false = rw e at outside in
      omega (arith, leb-false c.blocks q.first within)

  several_inside : leb c.blocks (q.first + q.n) ≡ false → q.first + (q.n + 1) ≤ c.blocks
  several_inside within = omega (arith, leb-false c.blocks (q.first + q.n) within)

  module _ (same : moves_blocks q ≡ true → q.size ≡ c.size) (stored : length memory ≡ c.blocks * c.size) (marks : length locks ≡ c.blocks)
      (outside : is_outside c q ≡ false) where
    -- and so are their bytes
    inside : (n : ℕ) → q.first + n ≤ c.blocks → (q.first + n) * c.size ≤ length memory
    inside n h = omega (arith, mul-le-mul_right c.size h)

    tells_one : q.command ≡ 0x20 → Tells (blocks_read memory locks c.size option q.first 1)
    unfolding moves_blocks reply_to reply_bytes earned reads_blocks count lead_of reading_in reading_held block_bytes block_bytes_in bytes_held lock_bytes_in marks_held blocks_held locks_held has_option
    tells_one e =
        let h : q.first + 1 ≤ c.blocks = one_inside outside e in
        let size : q.size ≡ c.size = same (rw e refl) in
        record {
          reply = rw e refl;
          long = rw (e, size, length_read memory locks c.size option q.first 1 (inside 1 h)) (omega arith);
          all = λ f. absurd (omega arith);
          read = rw (e, one-mul) refl;
          blocks = rw (e, size) (blocks_of_card memory locks c.size option q.first 1 (inside 1 h));
          marked = rw (e, size) (leads_of_card memory locks c.size option q.first 1 (inside 1 h) (omega arith));
        }

    tells_several : q.command ≡ 0x23 → Tells (blocks_read memory locks c.size option q.first (q.n + 1))
    unfolding moves_blocks is_outside reply_to reply_bytes earned reads_blocks count lead_of reading_in reading_held block_bytes block_bytes_in bytes_held lock_bytes_in marks_held blocks_held locks_held has_option
    tells_several e =
        let n : ℕ = q.n + 1 in
        let h : q.first + n ≤ c.blocks = several_inside (rw e at outside) in
        let size : q.size ≡ c.size = same (rw e refl) in
        record {
          reply = rw e refl;
          long = rw (e, size, length_read memory locks c.size option q.first n (inside n h)) (omega arith);
          all = λ f. absurd (omega arith);
          read = rw e refl;
          blocks = rw (e, size) (blocks_of_card memory locks c.size option q.first n (inside n h));
          marked = rw (e, size, or-false) (leads_of_card memory locks c.size option q.first n (inside n h) (omega arith));
        }

    tells_locks_lem : q.command ≡ 0x2c → Tells (locks_read locks q.first (q.n + 1))
    unfolding is_outside reply_to reply_bytes earned reads_blocks count reading_in reading_held lock_bytes block_bytes_in bytes_held lock_bytes_in marks_held locks_read locks_held
    tells_locks_lem e =
        let h : q.first + (q.n + 1) ≤ c.blocks = several_inside (rw e at outside) in
        record {
          reply = rw e refl;
          long = rw (e, length-take-le (q.n + 1) (drop q.first locks) (rw length-drop (omega arith))) (omega arith);
          all = λ f. absurd (omega arith);
          read = rw e refl;
          blocks = rw e refl;
          marked = rw e refl;
        }

    pub tells : 1 ≤ c.blocks → 1 ≤ c.size → c.uid < 2 ^ 64 → (part : List ℕ) × Tells part
    tells some sized wide = go (kind q.command)
      where
        go : Kind q.command → (part : List ℕ) × Tells part
        go (One e) = (_, tells_one e)
        go (Several e) = (_, tells_several e)
        go (System e) = (_, tells_system some sized wide e)
        go (Locks e) = (_, tells_locks_lem e)
        go (Plain a b d e) = (_, tells_plain a b d e)
