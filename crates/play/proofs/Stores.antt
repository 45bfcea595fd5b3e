-- Blocks stored one after another: where each lies and where its data stand, the memory's length, every byte of it, and one block alone.
-- By induction over the blocks. Assumes nothing.
use mathlib.Core.Path.{◌≡◌, refl, sym, ap, ◌∙◌}
use mathlib.Core.List.{List, ◌++◌}
use Prim.Native.Nat.{ℕ, zero, suc, ◌+◌, ◌-◌, ◌*◌, ◌≤◌, ◌<◌}
use native.Mathlib.Decide.{dec_lt}
use native.Mathlib.Nat.{add-zero, zero-mul, suc-mul, add-mul}
use native.Mathlib.Omega.{arith}
use lib.ListN.{length, take, drop, get_or}
use lib.Seq.{get_or-take, get_or-drop, take-add, drop-drop}
use Rattle.lent.specs.Lent.{placed}
use Rattle.lent.proofs.Over.{length_placed, placed_none, placed_placed}
use Rattle.lent.proofs.Placed.{placed_before, placed_byte, placed_past}
use Rattle.play.specs.Effects.{blocks_stored}
use borrow.Rule.Slice.PartMut.{put_mid}
use Rattle.play.proofs.Copy.{length_part, copied}
use Rattle.play.proofs.Products.{block_within}

-- the data of block i of n stand in the frame
pub source_within : (place size n i : ℕ) {frame : ℕ} → i < n → place + n * size ≤ frame → place + i * size + size ≤ frame
source_within place size n i h k = omega (arith, block_within i n size h)

-- and the block lies in memory
pub store_within : (size first n i : ℕ) {memory : ℕ} → i < n → (first + n) * size ≤ memory → (first + i) * size + size ≤ memory
store_within size first n i h k =
    let inside : first + i < first + n = omega arith in
    omega (arith, block_within (first + i) (first + n) size inside)

pub length_stored : (frame : List ℕ) (place size first n : ℕ) (memory : List ℕ) → place + n * size ≤ length frame
    → (first + n) * size ≤ length memory → length (blocks_stored frame place size first n memory) ≡ length memory
unfolding blocks_stored
length_stored frame place size first zero memory h k = refl
length_stored frame place size first (suc n) memory h k =
    let next : n < suc n = omega arith in
    let source = source_within place size (suc n) n next h in
    let inside = store_within size first (suc n) n next k in
    let before : length (blocks_stored frame place size first n memory) ≡ length memory =
    length_stored frame place size first n memory (omega (arith, source)) (omega (arith, inside)) in
    let part : length (take size (drop (place + n * size) frame)) ≡ size = length_part (place + n * size) size frame source in
    length_placed ((first + n) * size) (take size (drop (place + n * size) frame)) (blocks_stored frame place size first n memory)
    (rw (part, before) inside)
    ∙ before

-- one block alone
pub stored_one : (frame : List ℕ) (place size block : ℕ) (memory : List ℕ)
    → blocks_stored frame place size block 1 memory ≡ placed (block * size) (take size (drop place frame)) memory
unfolding blocks_stored
stored_one frame place size block memory = rw (add-zero, zero-mul, add-zero)

-- the last block of suc n: its data stand in the frame, it lies in memory, and there is room for it after the others
last_within : (frame : List ℕ) (place size first n : ℕ) (memory : List ℕ) → place + suc n * size ≤ length frame
    → (first + suc n) * size ≤ length memory
    → (place + n * size + size ≤ length frame)
    × ((first + n) * size + size ≤ length memory)
    × ((first + n) * size + length (take size (drop (place + n * size) frame)) ≤ length (blocks_stored frame place size first n memory))
last_within frame place size first n memory h m =
    let next : n < suc n = omega arith in
    let source = source_within place size (suc n) n next h in
    let inside = store_within size first (suc n) n next m in
    let before = length_stored frame place size first n memory (omega (arith, source)) (omega (arith, inside)) in
    (source, inside, rw (length_part (place + n * size) size frame source, before) inside)

-- all of them at once
pub stored_whole : (frame : List ℕ) (place size first n : ℕ) (memory : List ℕ) → place + n * size ≤ length frame → (first + n) * size ≤ length memory
    → placed (first * size) (take (n * size) (drop place frame)) memory ≡ blocks_stored frame place size first n memory
unfolding blocks_stored
stored_whole frame place size first zero memory h k = rw zero-mul (placed_none (first * size) memory)
stored_whole frame place size first (suc n) memory h k =
    let last = last_within frame place size first n memory h k in
    let s : List ℕ = take (n * size) (drop place frame) in
    let v : List ℕ = take size (drop (place + n * size) frame) in
    let before : placed (first * size) s memory ≡ blocks_stored frame place size first n memory =
    stored_whole frame place size first n memory (omega (arith, last.0)) (omega (arith, last.1)) in
    let part : length s ≡ n * size = length_part place (n * size) frame (omega (arith, last.0)) in
    let one : length v ≡ size = length_part (place + n * size) size frame last.0 in
    let end : first * size + length s ≡ (first + n) * size = rw part (sym (add-mul first n size)) in
    let both : take (suc n * size) (drop place frame) ≡ s ++ v = rw (suc-mul, take-add, drop-drop) refl in
    rw both
    (sym (placed_placed (first * size) s v memory (omega (arith, end, one, last.1)))
    ∙ ap (λ (i : ℕ). placed i v (placed (first * size) s memory)) end
    ∙ ap (λ (m : List ℕ). placed ((first + n) * size) v m) before)

-- what one copy of them leaves
pub stored_copy : (frame : List ℕ) (place size first n : ℕ) (memory part : List ℕ)
    → part ≡ take (place + n * size - place) (drop place frame) → place + n * size ≤ length frame → (first + n) * size ≤ length memory
    → put_mid (first * size) (first * size + n * size - first * size) memory part ≡ blocks_stored frame place size first n memory
stored_copy frame place size first n memory part is h k =
    copied frame memory place (first * size) (n * size) is h ∙ stored_whole frame place size first n memory h k

-- ---- byte by byte

-- the bytes of the blocks are the frame's
pub stored_byte : (frame : List ℕ) (place size first n : ℕ) (memory : List ℕ) → place + n * size ≤ length frame
    → (first + n) * size ≤ length memory → (k : ℕ) → k < n * size
    → get_or (blocks_stored frame place size first n memory) (first * size + k) 0 ≡ get_or frame (place + k) 0
unfolding blocks_stored
stored_byte frame place size first zero memory h m k b = absurd (omega (arith, zero-mul size))
stored_byte frame place size first (suc n) memory h m k b =
    let last = last_within frame place size first n memory h m in
    go
    (dec_lt k (n * size))
    last.0
    last.2
    (stored_byte frame place size first n memory (omega (arith, last.0)) (omega (arith, last.1)) k)
  where
    part : List ℕ
    part = take size (drop (place + n * size) frame)

    earlier : List ℕ
    earlier = blocks_stored frame place size first n memory

    go : Dec (k < n * size) → place + n * size + size ≤ length frame → (first + n) * size + length part ≤ length earlier
        → (k < n * size → get_or earlier (first * size + k) 0 ≡ get_or frame (place + k) 0)
        → get_or (blocks_stored frame place size first (suc n) memory) (first * size + k) 0 ≡ get_or frame (place + k) 0
    go (yes p) source room before =
        let left : first * size + k < (first + n) * size = omega (arith, add-mul first n size) in
        placed_before ((first + n) * size) part earlier (first * size + k) room left ∙ before p
    go (no p) source room before =
        let j : ℕ = k - n * size in
        let small : j < size = omega (arith, suc-mul n size) in
        let here : first * size + k ≡ (first + n) * size + j = omega (arith, add-mul first n size) in
        let there : place + n * size + j ≡ place + k = omega arith in
        let inside : j < length part = rw (length_part (place + n * size) size frame source) small in
        ap (λ (i : ℕ). get_or (blocks_stored frame place size first (suc n) memory) i 0) here
        ∙ placed_byte ((first + n) * size) part earlier j room inside
        ∙ get_or-take size (drop (place + n * size) frame) j 0 small
        ∙ get_or-drop (place + n * size) frame j 0
        ∙ ap (λ (i : ℕ). get_or frame i 0) there

-- those before them, and those past them, are as they were found
pub stored_before : (frame : List ℕ) (place size first n : ℕ) (memory : List ℕ) → place + n * size ≤ length frame
    → (first + n) * size ≤ length memory → (k : ℕ) → k < first * size
    → get_or (blocks_stored frame place size first n memory) k 0 ≡ get_or memory k 0
unfolding blocks_stored
stored_before frame place size first zero memory h m k b = refl
stored_before frame place size first (suc n) memory h m k b =
    let last = last_within frame place size first n memory h m in
    let left : k < (first + n) * size = omega (arith, add-mul first n size) in
    placed_before ((first + n) * size) (take size (drop (place + n * size) frame)) (blocks_stored frame place size first n memory) k last.2 left
    ∙ stored_before frame place size first n memory (omega (arith, last.0)) (omega (arith, last.1)) k b

pub stored_past : (frame : List ℕ) (place size first n : ℕ) (memory : List ℕ) → place + n * size ≤ length frame
    → (first + n) * size ≤ length memory → (k : ℕ) → (first + n) * size ≤ k
    → get_or (blocks_stored frame place size first n memory) k 0 ≡ get_or memory k 0
unfolding blocks_stored
stored_past frame place size first zero memory h m k b = refl
stored_past frame place size first (suc n) memory h m k b =
    let last = last_within frame place size first n memory h m in
    let part : List ℕ = take size (drop (place + n * size) frame) in
    let right = store_within size first (suc n) n (omega arith) b in
    let past : (first + n) * size + length part ≤ k = rw (length_part (place + n * size) size frame last.0) right in
    placed_past ((first + n) * size) part (blocks_stored frame place size first n memory) k last.2 past
    ∙ stored_past frame place size first n memory (omega (arith, last.0)) (omega (arith, last.1)) k (omega (arith, right))
