-- Which slots wait, as a 0 or 1 for each level and slot: what marking, opening and the two scans do to it.
-- By the bits of a number and the laws of the scans. Assumes nothing.
use mathlib.Core.Path.{◌≡◌, refl, ap}
use mathlib.Core.Bool.{Bool, true, false, cond}
use Prim.Native.Nat.{ℕ, suc, ◌+◌, ◌-◌, ◌^◌, ◌≤◌, ◌<◌}
use native.Mathlib.Decide.{dec_lt}
use native.Mathlib.Nat.{zero-div}
use native.Mathlib.Omega.{arith}
use mathlib.Core.List.{List}
use borrow.Author.Tests.{eq-eqb, ne_eqb, eqb-true, eqb-false}
use lib.Dec.{eqb}
use lib.ListN.{length, get_or, set, get_or-eq_default}
use lib.Seq.{get_or-set_same, get_or-set_other}
use Rattle.tails.specs.Sum.{one}
use Rattle.walk.specs.Marks.{waits, with_mark, without_mark, lowest, deepest_of, deepest}
use Rattle.walk.proofs.Levels as walk
use Rattle.walk.proofs.Levels.{deepest_of_most}
use Rattle.field.proofs.Bits.{bit, bit_added, bit_added_other, bit_taken, bit_taken_other}
use Rattle.field.proofs.Scans.{lowest_from_waits, deepest_of_last, deepest_of_mark}

unfoldable pub wait : List ℕ → ℕ → ℕ → ℕ
wait marks j s = one (waits (get_or marks j 0) s)

-- ---- a slot is marked

unset_bit : (m s : ℕ) → waits m s ≡ false → bit m s ≡ 0
unfolding waits
unset_bit m s h =
    let other : bit m s ≡ 1 → ⊥ = eqb-false (bit m s) 1 h in
    omega arith

marked_waits : (m t : ℕ) → waits (with_mark m t) t ≡ true
unfolding waits with_mark
marked_waits m t = go (waits m t) refl
  where
    go : (b : Bool) → waits m t ≡ b → waits (cond b m (m + 2 ^ t)) t ≡ true
    go true e = e
    go false e = eq-eqb (bit (m + 2 ^ t) t) 1 (bit_added t m (unset_bit m t e))

marked_waits_slot : (m t s : ℕ) → (s ≡ t → ⊥) → waits (with_mark m t) s ≡ waits m s
unfolding waits with_mark
marked_waits_slot m t s g = go (waits m t) refl
  where
    go : (b : Bool) → waits m t ≡ b → waits (cond b m (m + 2 ^ t)) s ≡ waits m s
    go true e = refl
    go false e = ap (λ (n : ℕ). eqb n 1) (bit_added_other t s m (unset_bit m t e) g)

pub wait_marked : (marks : List ℕ) (k t : ℕ) → k < length marks → wait (set marks k (with_mark (get_or marks k 0) t)) k t ≡ 1
unfolding wait one
wait_marked marks k t h = rw (get_or-set_same marks k (with_mark (get_or marks k 0) t) 0 h, marked_waits (get_or marks k 0) t)

pub wait_marked_slot : (marks : List ℕ) (k t s : ℕ) → k < length marks → (s ≡ t → ⊥)
    → wait (set marks k (with_mark (get_or marks k 0) t)) k s ≡ wait marks k s
unfolding wait
wait_marked_slot marks k t s h g = rw (get_or-set_same marks k (with_mark (get_or marks k 0) t) 0 h, marked_waits_slot (get_or marks k 0) t s g)

-- ---- a slot is opened

opened_waits : (m t : ℕ) → waits (without_mark m t) t ≡ false
unfolding waits without_mark
opened_waits m t = go (waits m t) refl
  where
    go : (b : Bool) → waits m t ≡ b → waits (cond b (m - 2 ^ t) m) t ≡ false
    go true e =
        let taken : bit (m - 2 ^ t) t ≡ 0 = bit_taken t m (eqb-true (bit m t) 1 e) in
        ne_eqb (bit (m - 2 ^ t) t) 1 (λ p. absurd (omega arith))
    go false e = e

opened_waits_slot : (m t s : ℕ) → (s ≡ t → ⊥) → waits (without_mark m t) s ≡ waits m s
unfolding waits without_mark
opened_waits_slot m t s g = go (waits m t) refl
  where
    go : (b : Bool) → waits m t ≡ b → waits (cond b (m - 2 ^ t) m) s ≡ waits m s
    go true e = ap (λ (n : ℕ). eqb n 1) (bit_taken_other t s m (eqb-true (bit m t) 1 e) g)
    go false e = refl

pub wait_opened : (marks : List ℕ) (k t : ℕ) → k < length marks → wait (set marks k (without_mark (get_or marks k 0) t)) k t ≡ 0
unfolding wait one
wait_opened marks k t h = rw (get_or-set_same marks k (without_mark (get_or marks k 0) t) 0 h, opened_waits (get_or marks k 0) t)

pub wait_opened_slot : (marks : List ℕ) (k t s : ℕ) → k < length marks → (s ≡ t → ⊥)
    → wait (set marks k (without_mark (get_or marks k 0) t)) k s ≡ wait marks k s
unfolding wait
wait_opened_slot marks k t s h g = rw (get_or-set_same marks k (without_mark (get_or marks k 0) t) 0 h, opened_waits_slot (get_or marks k 0) t s g)

-- another level stays
pub wait_level : (marks : List ℕ) (k m j s : ℕ) → (j ≡ k → ⊥) → wait (set marks k m) j s ≡ wait marks j s
unfolding wait
wait_level marks k m j s g = rw (get_or-set_other marks k j m 0 g)

-- a number of marks fits sixteen bits, and does so after marking and opening
pub mark_fits : (m t : ℕ) → m < 65536 → t < 16 → with_mark m t < 65536
unfolding with_mark
mark_fits m t h g = go (waits m t) refl
  where
    go : (b : Bool) → waits m t ≡ b → cond b m (m + 2 ^ t) < 65536
    go true e = h
    go false e = walk.mark_fits m t h g e

pub unmark_fits : (m t : ℕ) → m < 65536 → without_mark m t < 65536
unfolding without_mark
unmark_fits m t h = go (waits m t)
  where
    go : (b : Bool) → cond b (m - 2 ^ t) m < 65536
    go true = omega arith
    go false = h

-- ---- the two scans

-- no mark, no slot that waits
pub wait_none : (marks : List ℕ) (j s : ℕ) → get_or marks j 0 ≡ 0 → wait marks j s ≡ 0
unfolding wait waits one
wait_none marks j s h = rw (h, zero-div (2 ^ s))

-- the deepest level with a mark
pub deepest_below : (marks : List ℕ) (j : ℕ) → deepest marks ≡ suc j → j < length marks
unfolding deepest
deepest_below marks j h =
    let most : deepest_of marks (length marks) ≤ length marks = deepest_of_most marks (length marks) in
    omega arith

pub deepest_mark : (marks : List ℕ) (j : ℕ) → deepest marks ≡ suc j → get_or marks j 0 ≡ 0 → ⊥
unfolding deepest
deepest_mark marks j h e = deepest_of_mark marks (length marks) j h e

-- no mark deeper
pub deepest_last : (marks : List ℕ) (i : ℕ) → deepest marks ≤ i → get_or marks i 0 ≡ 0
unfolding deepest
deepest_last marks i h = go (dec_lt i (length marks))
  where
    go : Dec (i < length marks) → get_or marks i 0 ≡ 0
    go (yes g) = deepest_of_last marks (length marks) i h g
    go (no g) = get_or-eq_default marks 0 {n = i} (omega arith)

-- no mark at all
pub deepest_none : (marks : List ℕ) → deepest marks ≡ 0 → (j s : ℕ) → wait marks j s ≡ 0
deepest_none marks h j s = wait_none marks j s (deepest_last marks j (omega arith))

pub lowest_waits : (m : ℕ) → m < 65536 → (m ≡ 0 → ⊥) → waits m (lowest m) ≡ true
unfolding lowest
lowest_waits m h g = lowest_from_waits m 0 15 (omega arith) (λ e. g (omega arith))

pub wait_lowest : (marks : List ℕ) (j : ℕ) → get_or marks j 0 < 65536 → (get_or marks j 0 ≡ 0 → ⊥) → wait marks j (lowest (get_or marks j 0)) ≡ 1
unfolding wait one
wait_lowest marks j h g = rw (lowest_waits (get_or marks j 0) h g)
