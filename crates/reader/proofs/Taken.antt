-- Blocks and their lead bytes taken apart: their lengths, and one block more in the loop that copies them. By induction over the blocks.
-- Assumes nothing.
use mathlib.Core.Path.{◌≡◌, sym, ◌∙◌}
use mathlib.Core.List.{List}
use Prim.Native.Nat.{ℕ, zero, suc, ◌+◌, ◌*◌, ◌≤◌, ◌<◌}
use native.Mathlib.Nat.{suc-mul, mul-le-mul_right}
use native.Mathlib.Numerals.{add-one}
use native.Mathlib.Omega.{arith}
use lib.ListN.{length, take, drop, length-append, length-drop}
use lib.Seq.{length-take-le}
use Rattle.lent.specs.Lent.{over, placed}
use Rattle.lent.proofs.Over.{over_none, over_placed}
use Rattle.reader.specs.Reading.{leads_in, blocks_in}

-- a part of a list has its length
pub length_part : (at n : ℕ) (s : List ℕ) → at + n ≤ length s → length (take n (drop at s)) ≡ n
length_part at n s h = length-take-le n (drop at s) (rw length-drop (omega arith))

pub length_leads : (part : List ℕ) (lead size i : ℕ) → i * (lead + size) ≤ length part → length (leads_in part lead size i) ≡ i * lead
unfolding leads_in
length_leads part lead size zero h = omega arith
length_leads part lead size (suc i) h =
    let all : suc i * (lead + size) ≡ i * (lead + size) + (lead + size) = suc-mul i (lead + size) in
    rw (length-append, length_leads part lead size i (omega arith), length_part (i * (lead + size)) lead part (omega arith), suc-mul i lead)

pub length_blocks : (part : List ℕ) (lead size i : ℕ) → i * (lead + size) ≤ length part → length (blocks_in part lead size i) ≡ i * size
unfolding blocks_in
length_blocks part lead size zero h = omega arith
length_blocks part lead size (suc i) h =
    let all : suc i * (lead + size) ≡ i * (lead + size) + (lead + size) = suc-mul i (lead + size) in
    rw (length-append, length_blocks part lead size i (omega arith), length_part (i * (lead + size) + lead) size part (omega arith), suc-mul i size)

-- ---- the loop that takes them apart

-- one block more lies within the part
pub block_inside : (i n per : ℕ) → i < n → i * per + per ≤ n * per
block_inside i n per h =
    let within : suc i * per ≤ n * per = mul-le-mul_right per h in
    omega (arith, suc-mul i per)

pub leads_none : (part : List ℕ) (lead size : ℕ) (e : List ℕ) → e ≡ over (leads_in part lead size 0) e
unfolding leads_in
leads_none part lead size e = sym (over_none e)

pub blocks_none : (part : List ℕ) (lead size : ℕ) (e : List ℕ) → e ≡ over (blocks_in part lead size 0) e
unfolding blocks_in
blocks_none part lead size e = sym (over_none e)

pub leads_more : (part : List ℕ) (lead size i : ℕ) (e : List ℕ) {f g : List ℕ} → f ≡ over (leads_in part lead size i) e
    → g ≡ placed (i * lead) (take lead (drop (i * (lead + size)) part)) f → i * (lead + size) ≤ length part
    → g ≡ over (leads_in part lead size (i + 1)) e
unfolding leads_in
leads_more part lead size i e before after h =
    after
    ∙ rw (before, add-one i)
    (over_placed (i * lead) (leads_in part lead size i) (take lead (drop (i * (lead + size)) part)) e (length_leads part lead size i h))

pub blocks_more : (part : List ℕ) (lead size i : ℕ) (e : List ℕ) {f g : List ℕ} → f ≡ over (blocks_in part lead size i) e
    → g ≡ placed (i * size) (take size (drop (i * (lead + size) + lead) part)) f → i * (lead + size) ≤ length part
    → g ≡ over (blocks_in part lead size (i + 1)) e
unfolding blocks_in
blocks_more part lead size i e before after h =
    after
    ∙ rw (before, add-one i)
    (over_placed (i * size) (blocks_in part lead size i) (take size (drop (i * (lead + size) + lead) part)) e (length_blocks part lead size i h))
