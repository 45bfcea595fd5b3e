-- Laws of a list of owner marks: how many there are of each, the first free one, a mark stored.
-- By induction over the list. Assumes nothing.
use mathlib.Core.Path.{◌≡◌, refl, sym, ap, ◌∙◌}
use mathlib.Core.Bool.{Bool, true, false, cond, ◌&&◌, ◌||◌, and-eq-true_iff}
use mathlib.Core.List.{List, [], ◌∷◌}
use Prim.Native.Nat.{ℕ, zero, suc, ◌+◌, ◌≤◌, ◌<◌}
use native.Mathlib.Decide.{ℕ_discrete}
use native.Mathlib.Omega.{arith}
use borrow.Author.Tests.{lt-ltb, eq-eqb, ne_eqb, eqb-true, eqb-false}
use lib.Dec.{ltb, eqb, leb-suc-suc, eqb-suc-suc}
use lib.ListN.{length, set, get_or}
use Rattle.tails.specs.Sum.{one, tally, times}
use Rattle.walk.specs.Shared.{first_free, are_marks}

-- ---- a test as a number

pub one_same : {a b : ℕ} → a ≡ b → one (eqb a b) ≡ 1
unfolding one
one_same {a} {b} is = rw (eq-eqb a b is)

pub one_other : {a b : ℕ} → (a ≡ b → ⊥) → one (eqb a b) ≡ 0
unfolding one
one_other {a} {b} other = rw (ne_eqb a b other)

-- ---- how many there are

pub times_most : (mark : ℕ) (ms : List ℕ) → times mark ms ≤ length ms
unfolding times tally one
times_most mark [] = omega arith
times_most mark (m ∷ ms) = go (eqb m mark) (times_most mark ms)
  where
    go : (b : Bool) → times mark ms ≤ length ms → one b + times mark ms ≤ suc (length ms)
    go true rest = omega arith
    go false rest = omega arith

-- one of the three
abbrev pub is_mark : ℕ → Bool
is_mark owner = eqb owner 255 || (eqb owner 0 || eqb owner 1)

-- no mark counts twice
one_mark : (owner : ℕ) → one (eqb owner 255) + one (eqb owner 0) + one (eqb owner 1) ≡ one (is_mark owner)
unfolding one
one_mark owner = go (ℕ_discrete owner 255) (ℕ_discrete owner 0) (ℕ_discrete owner 1)
  where
    go : Dec (owner ≡ 255) → Dec (owner ≡ 0) → Dec (owner ≡ 1)
        → one (eqb owner 255) + one (eqb owner 0) + one (eqb owner 1) ≡ one (is_mark owner)
    go (yes e) b c = rw e
    go (no a) (yes e) c = rw e
    go (no a) (no b) (yes e) = rw e
    go (no a) (no b) (no c) = rw (ne_eqb owner 255 a, ne_eqb owner 0 b, ne_eqb owner 1 c)

-- those that are one of the three
abbrev good : List ℕ → ℕ
good ms = tally (λ x. one (is_mark x)) ms

marks_sum : (ms : List ℕ) → times 255 ms + times 0 ms + times 1 ms ≡ good ms
unfolding times tally
marks_sum [] = refl
marks_sum (m ∷ ms) =
    let here = one_mark m in
    let rest = marks_sum ms in
    omega (arith, here, rest)

good_most : (ms : List ℕ) → good ms ≤ length ms
unfolding tally one
good_most [] = omega arith
good_most (m ∷ ms) = go (is_mark m) (good_most ms)
  where
    go : (b : Bool) → good ms ≤ length ms → one b + good ms ≤ suc (length ms)
    go true rest = omega arith
    go false rest = omega arith

good_all : (ms : List ℕ) → eqb (good ms) (length ms) ≡ are_marks ms
unfolding tally are_marks one
good_all [] = refl
good_all (m ∷ ms) = go (is_mark m) (good_most ms) (good_all ms)
  where
    go : (b : Bool) → good ms ≤ length ms → eqb (good ms) (length ms) ≡ are_marks ms → eqb (one b + good ms) (suc (length ms)) ≡ b && are_marks ms
    go true most rest =
        let next : 1 + good ms ≡ suc (good ms) = omega arith in
        rw (next, eqb-suc-suc) rest
    go false most rest = ne_eqb _ _ (λ (e : 0 + good ms ≡ suc (length ms)). omega arith)

pub marks_most : (ms : List ℕ) → times 255 ms + times 0 ms + times 1 ms ≤ length ms
marks_most ms = rw (marks_sum ms) (good_most ms)

-- where every mark is one of the three, and only there, these are as many as the marks
pub marks_all : (ms : List ℕ) → eqb (times 255 ms + times 0 ms + times 1 ms) (length ms) ≡ are_marks ms
marks_all ms = rw (marks_sum ms) (good_all ms)

-- ---- the first free one

pub first_free_most : (ms : List ℕ) → first_free ms ≤ length ms
unfolding first_free
first_free_most [] = omega arith
first_free_most (m ∷ ms) = go (eqb m 255) (first_free_most ms)
  where
    go : (b : Bool) → first_free ms ≤ length ms → cond b 0 (suc (first_free ms)) ≤ suc (length ms)
    go true rest = omega arith
    go false rest = omega arith

pub first_free_below : (ms : List ℕ) → ltb 0 (times 255 ms) ≡ ltb (first_free ms) (length ms)
unfolding first_free times tally one
first_free_below [] = refl
first_free_below (m ∷ ms) = go (eqb m 255) (first_free_below ms)
  where
    go : (b : Bool) → ltb 0 (times 255 ms) ≡ ltb (first_free ms) (length ms)
        → ltb 0 (one b + times 255 ms) ≡ ltb (cond b 0 (suc (first_free ms))) (suc (length ms))
    go true rest = lt-ltb 0 (1 + times 255 ms) (omega arith) ∙ sym (lt-ltb 0 (suc (length ms)) (omega arith))
    go false rest =
        let none : 0 + times 255 ms ≡ times 255 ms = omega arith in
        ap (ltb 0) none ∙ rest ∙ sym (leb-suc-suc (suc (first_free ms)) (length ms))

pub first_free_is : (ms : List ℕ) → first_free ms < length ms → get_or ms (first_free ms) 0 ≡ 255
unfolding first_free
first_free_is [] h = absurd (omega arith)
first_free_is (m ∷ ms) h = go (eqb m 255) refl (first_free_is ms) h
  where
    go : (b : Bool) → eqb m 255 ≡ b → (first_free ms < length ms → get_or ms (first_free ms) 0 ≡ 255)
        → cond b 0 (suc (first_free ms)) < suc (length ms) → get_or (m ∷ ms) (cond b 0 (suc (first_free ms))) 0 ≡ 255
    go true is rest h = eqb-true m 255 is
    go false is rest h = rest (omega arith)

pub first_free_lowest : (ms : List ℕ) (i : ℕ) → i < first_free ms → get_or ms i 0 ≡ 255 → ⊥
unfolding first_free
first_free_lowest [] i h at = omega arith
first_free_lowest (m ∷ ms) i h at = go (eqb m 255) refl i (first_free_lowest ms) h at
  where
    go : (b : Bool) → eqb m 255 ≡ b → (i : ℕ) → ((i : ℕ) → i < first_free ms → get_or ms i 0 ≡ 255 → ⊥)
        → i < cond b 0 (suc (first_free ms)) → get_or (m ∷ ms) i 0 ≡ 255 → ⊥
    go true is i rest h at = omega arith
    go false is zero rest h at = eqb-false m 255 is at
    go false is (suc i) rest h at = rest i (omega arith) at

-- ---- a mark stored

tally_set : (v : ℕ → ℕ) (us : List ℕ) (at x : ℕ) → at < length us → tally v (set us at x) + v (get_or us at 0) ≡ tally v us + v x
unfolding tally
tally_set v [] at x h = absurd (omega arith)
tally_set v (u ∷ us) zero x h = omega arith
tally_set v (u ∷ us) (suc at) x h =
    let rest : tally v (set us at x) + v (get_or us at 0) ≡ tally v us + v x = tally_set v us at x (omega arith) in
    omega arith

pub times_set : (mark : ℕ) (ms : List ℕ) (at x : ℕ) → at < length ms
    → times mark (set ms at x) + one (eqb (get_or ms at 0) mark) ≡ times mark ms + one (eqb x mark)
unfolding times
times_set mark ms at x h = tally_set (λ y. one (eqb y mark)) ms at x h

-- both tests of two marks
pub are_marks_cons : (m : ℕ) (ms : List ℕ) → is_mark m ≡ true → are_marks ms ≡ true → are_marks (m ∷ ms) ≡ true
unfolding are_marks
are_marks_cons m ms p q = (and-eq-true_iff (is_mark m) (are_marks ms)).1 (p, q)

pub are_marks_parts : (m : ℕ) (ms : List ℕ) → are_marks (m ∷ ms) ≡ true → (is_mark m ≡ true) × (are_marks ms ≡ true)
unfolding are_marks
are_marks_parts m ms e = (and-eq-true_iff (is_mark m) (are_marks ms)).0 e

pub are_marks_set : (ms : List ℕ) (at x : ℕ) → is_mark x ≡ true → are_marks ms ≡ true → are_marks (set ms at x) ≡ true
are_marks_set [] at x is e = e
are_marks_set (m ∷ ms) zero x is e = are_marks_cons x ms is (are_marks_parts m ms e).1
are_marks_set (m ∷ ms) (suc at) x is e =
    are_marks_cons m (set ms at x) (are_marks_parts m ms e).0 (are_marks_set ms at x is (are_marks_parts m ms e).1)
