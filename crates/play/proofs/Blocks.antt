-- Blocks put one after another: their lengths, and one block more. By the option, and by induction over the blocks.
-- Assumes nothing.
use mathlib.Core.Path.{◌≡◌, refl, sym, ◌∙◌}
use mathlib.Core.Bool.{Bool, true, false}
use mathlib.Core.List.{List, [], ◌∷◌}
use Prim.Native.Nat.{ℕ, zero, suc, ◌+◌, ◌*◌, ◌≤◌, ◌<◌}
use native.Mathlib.Nat.{suc-mul}
use native.Mathlib.Numerals.{add-one}
use native.Mathlib.Omega.{arith}
use lib.ListN.{length, take, drop, get_or, set, length-append}
use Rattle.lent.specs.Lent.{placed}
use Rattle.lent.specs.Puts.{Puts, PutsAt}
use Rattle.lent.proofs.Over.{sets_placed, placed_none, placed_placed}
use Rattle.card.specs.Reply.{lead}
use Rattle.play.specs.Answer.{block_of, block_read, blocks_read}
use Rattle.play.proofs.Copy.{length_part}
use Rattle.play.proofs.Answers.{first_placed}
use Rattle.play.proofs.Products.{block_within}

-- a lock byte is asked for
pub lead_asked : {option : Bool} → option ≡ true → lead option ≡ 1
unfolding lead
lead_asked e = rw e refl

-- a block alone
pub puts_block : (memory locks : List ℕ) (size block at : ℕ) (answer : List ℕ) → block * size + size ≤ length memory
    → PutsAt at (block_read memory locks size false block) answer (at + size) (placed at (take size (drop (block * size) memory)) answer)
unfolding block_read block_of
puts_block memory locks size block at answer h =
    record { next = rw (length_part (block * size) size memory h); leaves = refl }

-- a block after its lock byte
pub puts_locked : (memory locks : List ℕ) (size block at : ℕ) (answer : List ℕ) → block * size + size ≤ length memory
    → at + (size + 1) ≤ length answer
    → PutsAt at (block_read memory locks size true block) answer (at + 1 + size)
    (placed (at + 1) (take size (drop (block * size) memory)) (set answer at (get_or locks block 0)))
unfolding block_read block_of
puts_locked memory locks size block at answer h k =
    let s : List ℕ = get_or locks block 0 ∷ [] in
    let v : List ℕ = take size (drop (block * size) memory) in
    let n : length v ≡ size = length_part (block * size) size memory h in
    record {
      next = omega arith;
      leaves = rw (sets_placed at s answer (omega arith)) (placed_placed at s v answer (omega arith));
    }

-- ---- lengths

pub length_block : (memory locks : List ℕ) (size : ℕ) (option : Bool) (block : ℕ) → block * size + size ≤ length memory
    → length (block_read memory locks size option block) ≡ size + lead option
unfolding block_read block_of lead
length_block memory locks size true block h = omega (arith, length_part (block * size) size memory h)
length_block memory locks size false block h = omega (arith, length_part (block * size) size memory h)

pub length_blocks : (memory locks : List ℕ) (size : ℕ) (option : Bool) (first n : ℕ) → (first + n) * size ≤ length memory
    → length (blocks_read memory locks size option first n) ≡ n * (size + lead option)
unfolding blocks_read
length_blocks memory locks size option first zero h = omega arith
length_blocks memory locks size option first (suc n) h =
    let within : (first + n) * size + size ≤ (first + suc n) * size = block_within (first + n) (first + suc n) size (omega arith) in
    rw (length-append (blocks_read memory locks size option first n) (block_read memory locks size option (first + n)), suc-mul n (size + lead option))
    (omega (
      arith,
      length_blocks memory locks size option first n (omega arith),
      length_block memory locks size option (first + n) (omega arith),
    ))

-- ---- i blocks stand in the buffer e after its first byte, and at is the place after them

pub record Sofar (memory locks : List ℕ) (size : ℕ) (option : Bool) (first : ℕ) (e : List ℕ) (i at : ℕ) (answer : List ℕ) : Type 0 where
  pub place : at ≡ 1 + i * (size + lead option)
  pub leaves : answer ≡ placed 1 (blocks_read memory locks size option first i) e

pub sofar_none : (memory locks : List ℕ) (size : ℕ) (option : Bool) (first : ℕ) (e : List ℕ) → Sofar memory locks size option first e 0 1 e
unfolding blocks_read
sofar_none memory locks size option first e = record { place = omega arith; leaves = sym (placed_none 1 e) }

module _ {memory locks : List ℕ} {size : ℕ} {option : Bool} {first : ℕ} {e : List ℕ} {i at : ℕ} {answer : List ℕ} where
  -- the next block has room
  pub sofar_room : Sofar memory locks size option first e i at answer → (n room : ℕ) → i < n → 1 + n * (size + lead option) ≤ room
      → at + (size + lead option) ≤ room
  sofar_room so n room h k = omega (arith, so.place, block_within i n (size + lead option) h)

  -- one block more
  pub sofar_suc : {r : ℕ} {left : List ℕ} → Sofar memory locks size option first e i at answer
      → PutsAt at (block_read memory locks size option (first + i)) answer r left → (first + i) * size + size ≤ length memory
      → at + (size + lead option) ≤ length e → Sofar memory locks size option first e (i + 1) r left
  unfolding blocks_read
  sofar_suc {r} {left} so puts stored h =
      let s : List ℕ = blocks_read memory locks size option first i in
      let v : List ℕ = block_read memory locks size option (first + i) in
      let before : length s ≡ i * (size + lead option) = length_blocks memory locks size option first i (omega arith) in
      let here : length v ≡ size + lead option = length_block memory locks size option (first + i) stored in
      let end : at ≡ 1 + length s = omega (arith, so.place) in
      record {
        place = rw (add-one i, suc-mul i (size + lead option)) (omega (arith, so.place, puts.next));
        leaves = puts.leaves ∙ rw (add-one i, so.leaves, end) (placed_placed 1 s v e (omega arith));
      }

-- all of them, after the first byte
pub puts_blocks : {memory locks : List ℕ} {size : ℕ} {option : Bool} {first n at : ℕ} {left : List ℕ} (e : List ℕ)
    → Sofar memory locks size option first (set e 0 0x00) n at left → (first + n) * size ≤ length memory → 1 + n * (size + lead option) ≤ length e
    → Puts (0x00 ∷ blocks_read memory locks size option first n) e at left
puts_blocks {memory} {locks} {size} {option} {first} {n} e so stored h =
    let s : List ℕ = blocks_read memory locks size option first n in
    let all : length s ≡ n * (size + lead option) = length_blocks memory locks size option first n stored in
    record { count = omega (arith, so.place); leaves = so.leaves ∙ first_placed 0x00 s e (omega arith) }
