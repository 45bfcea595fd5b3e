-- The card's own blocks, taken apart, are the bytes of its memory and, with Option, its lock bytes; and how long they are together.
-- By induction over the blocks. Assumes nothing.
use mathlib.Core.Path.{◌≡◌, refl, sym}
use mathlib.Core.Bool.{Bool, true, false, cond}
use mathlib.Core.List.{List, [], ◌∷◌, ◌++◌}
use Prim.Native.Nat.{ℕ, zero, suc, ◌+◌, ◌*◌, ◌≤◌}
use native.Mathlib.Nat.{suc-mul, zero-mul, add-mul}
use native.Mathlib.Omega.{arith}
use lib.ListN.{length, take, drop, get_or, length-append, length-drop}
use lib.Seq.{length-take-le, take-suc, take_at, drop_at, drop-append-add, drop-append_seam, drop-drop, drop-append-le, take-append-le, take-take, take-add, get_or-drop}
use Rattle.play.specs.Answer.{block_of, block_read, blocks_read}
use Rattle.reader.specs.Reading.{leads_in, blocks_in}

-- ---- what stands before a seam does not see what is behind it

part_left : (at n : ℕ) (xs ys : List ℕ) → at + n ≤ length xs → take n (drop at (xs ++ ys)) ≡ take n (drop at xs)
part_left at n xs ys h =
    rw (drop-append-le at xs ys (omega arith)) (take-append-le n (drop at xs) ys (rw length-drop (omega arith)))

blocks_left : (xs ys : List ℕ) (before size i : ℕ) → i * (before + size) ≤ length xs → blocks_in (xs ++ ys) before size i ≡ blocks_in xs before size i
unfolding blocks_in
blocks_left xs ys before size zero h = refl
blocks_left xs ys before size (suc i) h =
    let all : suc i * (before + size) ≡ i * (before + size) + (before + size) = suc-mul i (before + size) in
    rw (blocks_left xs ys before size i (omega arith), part_left (i * (before + size) + before) size xs ys (omega arith))

leads_left : (xs ys : List ℕ) (before size i : ℕ) → i * (before + size) ≤ length xs → leads_in (xs ++ ys) before size i ≡ leads_in xs before size i
unfolding leads_in
leads_left xs ys before size zero h = refl
leads_left xs ys before size (suc i) h =
    let all : suc i * (before + size) ≡ i * (before + size) + (before + size) = suc-mul i (before + size) in
    rw (leads_left xs ys before size i (omega arith), part_left (i * (before + size)) before xs ys (omega arith))

-- ---- so many blocks of a card, from the first on

-- what comes before a block, and how many bytes
abbrev lead_bytes : List ℕ → Bool → ℕ → List ℕ
lead_bytes locks option block = cond option (get_or locks block 0 ∷ []) []

abbrev lead : Bool → ℕ
lead option = cond option 1 0

length_lead : (locks : List ℕ) (option : Bool) (block : ℕ) → length (lead_bytes locks option block) ≡ lead option
length_lead locks true block = refl
length_lead locks false block = refl

-- the lock bytes of n blocks with Option, else none
abbrev pub marks : List ℕ → Bool → ℕ → ℕ → List ℕ
marks locks option first n = cond option (take n (drop first locks)) []

marks_more : (locks : List ℕ) (option : Bool) (first n : ℕ) → first + suc n ≤ length locks
    → marks locks option first n ++ lead_bytes locks option (first + n) ≡ marks locks option first (suc n)
marks_more locks true first n h =
    rw (take-suc (drop first locks) n 0 (rw length-drop (omega arith)), get_or-drop)
marks_more locks false first n h = refl

module _ (memory locks : List ℕ) (size : ℕ) (option : Bool) (first : ℕ) where
  abbrev read : ℕ → List ℕ
  read n = blocks_read memory locks size option first n

  -- the bytes of one block with what comes before it
  abbrev per : ℕ
  per = lead option + size

  -- the next block is in the memory, and so are those before it
  next_inside : (n : ℕ) → (first + suc n) * size ≤ length memory → (first + n) * size + size ≤ length memory
  next_inside n h =
      let k : suc (first + n) * size ≡ (first + n) * size + size = suc-mul (first + n) size in
      let same : first + suc n ≡ suc (first + n) = omega arith in
      let all : suc (first + n) * size ≤ length memory = rw same at h in
      omega (arith, k)

  fewer : (n : ℕ) → (first + suc n) * size ≤ length memory → (first + n) * size ≤ length memory
  fewer n h = omega (arith, next_inside n h)

  length_block : (n : ℕ) → (first + suc n) * size ≤ length memory → length (block_of memory size (first + n)) ≡ size
  unfolding block_of
  length_block n h = length-take-le size (drop ((first + n) * size) memory) (rw length-drop (omega (arith, next_inside n h)))

  pub length_read : (n : ℕ) → (first + n) * size ≤ length memory → length (read n) ≡ n * per
  unfolding blocks_read block_read
  length_read zero h = omega arith
  length_read (suc n) h =
      rw (length-append, length-append, length_read n (fewer n h), length_lead locks option (first + n), length_block n h, suc-mul n per)

  -- the last block, and what comes before it
  block_back : (n : ℕ) → (first + suc n) * size ≤ length memory → take size (drop (n * per + lead option) (read (suc n))) ≡ block_of memory size (first + n)
  unfolding blocks_read block_read block_of
  block_back n h =
      let long : length (read n) ≡ n * per = length_read n (fewer n h) in
      rw (
        ← long,
        drop-append-add,
        drop_at (lead_bytes locks option (first + n)) (take size (drop ((first + n) * size) memory)) (lead option) (length_lead locks option (first + n)),
        take-take size size (drop ((first + n) * size) memory) (omega arith),
      )

  lead_back : (n : ℕ) → (first + suc n) * size ≤ length memory → take (lead option) (drop (n * per) (read (suc n))) ≡ lead_bytes locks option (first + n)
  unfolding blocks_read block_read
  lead_back n h =
      let long : length (read n) ≡ n * per = length_read n (fewer n h) in
      rw (
        ← long,
        drop-append_seam,
        take_at (lead_bytes locks option (first + n)) (block_of memory size (first + n)) (lead option) (length_lead locks option (first + n)),
      )

  block_more : (n : ℕ) → take (n * size) (drop (first * size) memory) ++ block_of memory size (first + n) ≡ take (suc n * size) (drop (first * size) memory)
  unfolding block_of
  block_more n =
      let place : first * size + n * size ≡ (first + n) * size = sym (add-mul first n size) in
      rw (suc-mul n size, take-add (n * size) size (drop (first * size) memory), drop-drop (n * size) (first * size) memory, place)

  -- those before the last are as they were without it
  blocks_before : (n : ℕ) → (first + suc n) * size ≤ length memory → blocks_in (read (suc n)) (lead option) size n ≡ blocks_in (read n) (lead option) size n
  unfolding blocks_read
  blocks_before n h =
      let long : length (read n) ≡ n * per = length_read n (fewer n h) in
      blocks_left (read n) (block_read memory locks size option (first + n)) (lead option) size n (omega arith)

  leads_before : (n : ℕ) → (first + suc n) * size ≤ length memory → leads_in (read (suc n)) (lead option) size n ≡ leads_in (read n) (lead option) size n
  unfolding blocks_read
  leads_before n h =
      let long : length (read n) ≡ n * per = length_read n (fewer n h) in
      leads_left (read n) (block_read memory locks size option (first + n)) (lead option) size n (omega arith)

  -- the blocks, one after the other, are the memory's own bytes
  pub blocks_of_card : (n : ℕ) → (first + n) * size ≤ length memory
      → blocks_in (read n) (lead option) size n ≡ take (n * size) (drop (first * size) memory)
  unfolding blocks_in
  blocks_of_card zero h = rw zero-mul refl
  blocks_of_card (suc n) h = rw (blocks_before n h, blocks_of_card n (fewer n h), block_back n h) (block_more n)

  -- and what comes before them, one after the other, the lock bytes
  pub leads_of_card : (n : ℕ) → (first + n) * size ≤ length memory → first + n ≤ length locks
      → leads_in (read n) (lead option) size n ≡ marks locks option first n
  unfolding leads_in
  leads_of_card zero h k = none option
    where
      none : (b : Bool) → [] ≡ marks locks b first 0
      none true = refl
      none false = refl
  leads_of_card (suc n) h k =
      rw (leads_before n h, leads_of_card n (fewer n h) (omega arith), lead_back n h) (marks_more locks option first n k)
