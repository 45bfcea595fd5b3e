-- Laws of the clash marks: a level's number stays within sixteen bits, the lowest mark is one of sixteen slots, and a store at one level
-- moves the deepest no further than that level. By the bits below and above a slot, and by induction over slots and levels. Assumes nothing.
use mathlib.Core.Path.{◌≡◌, refl, sym, ap, ◌∙◌}
use mathlib.Core.Bool.{Bool, true, false, cond}
use mathlib.Core.List.{List}
use Prim.Native.Nat.{min, ℕ, zero, suc, ◌+◌, ◌-◌, ◌*◌, ◌/◌, ◌%◌, ◌^◌, ◌≤◌, ◌<◌}
use native.Mathlib.Nat.{pow-suc, div-div-eq-div-mul, div-eq_of_lt, mod-lt, mul-le-mul_right, add-mul}
use native.Mathlib.Decide.{dec_lt}
use native.Mathlib.Omega.{arith}
use borrow.Author.Tests.{eqb-true, eqb-false, eq-eqb, ltb-true, ltb-false}
use lib.Count.{under, count_trailing_zeros}
use lib.Dec.{ltb, eqb}
use lib.ListN.{length, get_or, set, length-set}
use lib.Pow.{pow_pos, pow-add, shl_exact, shr_lt, split}
use lib.Seq.{get_or-set_other}
use Rattle.std.specs.Prelude.{Option, Some, None}
use Rattle.walk.specs.Steps.{levels_to, IsDeepest}
use Rattle.walk.specs.Marks.{waits, lowest_from, lowest, deepest_of, deepest}
use Rattle.walk.specs.Record.{no_marks}

-- ---- one level's number

-- the number of one slot
pub power_at : (s : ℕ) → s < 16 → 1 * 2 ^ s % 65536 ≡ 2 ^ s
power_at s h = shl_exact {a = 1} 1 s 16 (omega arith) (omega arith) ∙ omega arith

-- a mark more
pub mark_fits : (m s : ℕ) → m < 65536 → s < 16 → waits m s ≡ false → m + 2 ^ s < 65536
unfolding waits
mark_fits m s h k e =
    let q : ℕ = m / 2 ^ s in
    let places : suc (15 - s) + s ≡ 16 = omega arith in
    let whole : 2 ^ suc (15 - s) * 2 ^ s ≡ 65536 = sym (pow-add 2 (suc (15 - s)) s) ∙ ap (λ (n : ℕ). 2 ^ n) places in
    let inside : m < 2 ^ (suc (15 - s) + s) = rw places h in
    let above : q < 2 ^ suc (15 - s) = shr_lt (suc (15 - s)) s inside in
    let even : q % 2 ≡ 1 → ⊥ = eqb-false (q % 2) 1 e in
    let next : q + 2 ≤ 2 ^ suc (15 - s) = omega arith in
    let top : (q + 2) * 2 ^ s ≤ 65536 = rw whole at (mul-le-mul_right (2 ^ s) next) in
    let parts : (q + 2) * 2 ^ s ≡ q * 2 ^ s + 2 * 2 ^ s = add-mul q 2 (2 ^ s) in
    let rest : m % 2 ^ s < 2 ^ s = mod-lt m (pow_pos s) in
    omega (arith, split m s)

-- a mark that is there
pub mark_stands : (m s : ℕ) → waits m s ≡ true → 2 ^ s ≤ m
unfolding waits
mark_stands m s e = go (dec_lt m (2 ^ s))
  where
    go : Dec (m < 2 ^ s) → 2 ^ s ≤ m
    go (yes h) =
        let none : m / 2 ^ s ≡ 0 = div-eq_of_lt h in
        let odd : m / 2 ^ s % 2 ≡ 1 = eqb-true (m / 2 ^ s % 2) 1 e in
        absurd (omega arith)
    go (no h) = omega arith

-- ---- the lowest mark

lowest_from_most : (m s n : ℕ) → lowest_from m s n ≤ s + n
unfolding lowest_from
lowest_from_most m s zero = omega arith
lowest_from_most m s (suc n) = go (waits m s) (lowest_from_most m (suc s) n)
  where
    go : (t : Bool) → lowest_from m (suc s) n ≤ suc s + n → cond t s (lowest_from m (suc s) n) ≤ s + suc n
    go true h = omega arith
    go false h = omega arith

pub lowest_is_slot : (m : ℕ) → lowest m < 16
unfolding lowest
lowest_is_slot m = omega (arith, lowest_from_most m 0 15)

-- with so many slots left before the last: it is this slot, or else among those after it
-- the zeros below it
lowest_from_zeros : (m s n : ℕ) → lowest_from m s n ≡ s + count_trailing_zeros n (m / 2 ^ s)
unfolding lowest_from waits count_trailing_zeros
lowest_from_zeros m s zero = omega arith
lowest_from_zeros m s (suc n) = go (m / 2 ^ s % 2) refl (lowest_from_zeros m (suc s) n)
  where
    half : m / 2 ^ s / 2 ≡ m / 2 ^ suc s
    half = sym (ap (λ (p : ℕ). m / p) (pow-suc 2 s) ∙ sym (div-div-eq-div-mul m (2 ^ s) 2))

    go : (r : ℕ) → m / 2 ^ s % 2 ≡ r → lowest_from m (suc s) n ≡ suc s + count_trailing_zeros n (m / 2 ^ suc s)
        → cond (eqb r 1) s (lowest_from m (suc s) n) ≡ s + under r (count_trailing_zeros n (m / 2 ^ s / 2))
    go zero e rest = rest ∙ rw half (omega arith)
    go (suc zero) e rest = omega arith
    go (suc (suc r)) e rest = absurd (omega (arith, e))

-- of one digit more
zeros_short : (k n : ℕ) → count_trailing_zeros (suc k) n < k → count_trailing_zeros k n ≡ count_trailing_zeros (suc k) n
unfolding count_trailing_zeros
zeros_short zero n h = absurd (omega arith)
zeros_short (suc k) n h = go (n % 2) h (zeros_short k (n / 2))
  where
    go : (r : ℕ) → under r (count_trailing_zeros (suc k) (n / 2)) < suc k → (count_trailing_zeros (suc k) (n / 2) < k → count_trailing_zeros k (n / 2) ≡ count_trailing_zeros (suc k) (n / 2))
        → under r (count_trailing_zeros k (n / 2)) ≡ under r (count_trailing_zeros (suc k) (n / 2))
    go zero h rest = ap suc (rest (omega arith))
    go (suc r) h rest = refl

zeros_long : (k n : ℕ) → k ≤ count_trailing_zeros (suc k) n → count_trailing_zeros k n ≡ k
unfolding count_trailing_zeros
zeros_long zero n h = refl
zeros_long (suc k) n h = go (n % 2) h (zeros_long k (n / 2))
  where
    go : (r : ℕ) → suc k ≤ under r (count_trailing_zeros (suc k) (n / 2)) → (k ≤ count_trailing_zeros (suc k) (n / 2) → count_trailing_zeros k (n / 2) ≡ k) → under r (count_trailing_zeros k (n / 2)) ≡ suc k
    go zero h rest = ap suc (rest (omega arith))
    go (suc r) h rest = absurd (omega arith)

lowest_zeros : (m : ℕ) → lowest m ≡ count_trailing_zeros 15 m
unfolding lowest
lowest_zeros m =
    let whole : m / 2 ^ 0 ≡ m = omega arith in
    lowest_from_zeros m 0 15 ∙ rw whole (omega arith)

-- the zeros below it, or 15
pub lowest_least : (m : ℕ) → min (count_trailing_zeros 16 m) 15 ≡ lowest m
lowest_least m = go (ltb (count_trailing_zeros 16 m) 15) refl
  where
    go : (b : Bool) → ltb (count_trailing_zeros 16 m) 15 ≡ b → min (count_trailing_zeros 16 m) 15 ≡ lowest m
    go true is =
        let few : count_trailing_zeros 16 m < 15 = ltb-true _ 15 is in
        omega (arith, few, zeros_short 15 m few, lowest_zeros m)
    go false is =
        let many : 15 ≤ count_trailing_zeros 16 m = ltb-false _ 15 is in
        omega (arith, many, zeros_long 15 m many, lowest_zeros m)

-- ---- the deepest level

-- a level with a mark, where none above has one
deepest_at : (marks : List ℕ) (n j : ℕ) → j < n → (get_or marks j 0 ≡ 0 → ⊥) → ((k : ℕ) → j < k → k < n → get_or marks k 0 ≡ 0) → deepest_of marks n ≡ j + 1
unfolding deepest_of
deepest_at marks zero j h has above = absurd (omega arith)
deepest_at marks (suc n) j h has above =
    go (eqb (get_or marks n 0) 0) refl (λ below. deepest_at marks n j below has (λ k low high. above k low (omega arith)))
  where
    go : (b : Bool) → eqb (get_or marks n 0) 0 ≡ b → (j < n → deepest_of marks n ≡ j + 1) → cond b (deepest_of marks n) (suc n) ≡ j + 1
    go true is rest =
        let other : j ≡ n → ⊥ = λ same. has (ap (λ (k : ℕ). get_or marks k 0) same ∙ eqb-true (get_or marks n 0) 0 is) in
        rest (omega arith)
    go false is rest =
        let last : j < n → ⊥ = λ below. eqb-false (get_or marks n 0) 0 is (above n below (omega arith)) in
        omega arith

none_deep : (marks : List ℕ) (n : ℕ) → ((k : ℕ) → k < n → get_or marks k 0 ≡ 0) → deepest_of marks n ≡ 0
unfolding deepest_of
none_deep marks zero none = refl
none_deep marks (suc n) none = rw (eq-eqb (get_or marks n 0) 0 (none n (omega arith))) (none_deep marks n (λ k h. none k (omega arith)))

pub deepest_told : (marks : List ℕ) (r : Option ℕ) → IsDeepest marks r → levels_to r ≡ deepest marks
unfolding levels_to deepest
deepest_told marks (Some j) is = sym (deepest_at marks (length marks) j is.0 is.1 is.2)
deepest_told marks None none = sym (none_deep marks (length marks) none)

pub deepest_of_most : (marks : List ℕ) (n : ℕ) → deepest_of marks n ≤ n
unfolding deepest_of
deepest_of_most marks zero = omega arith
deepest_of_most marks (suc n) = go (eqb (get_or marks n 0) 0) (deepest_of_most marks n)
  where
    go : (t : Bool) → deepest_of marks n ≤ n → cond t (deepest_of marks n) (suc n) ≤ suc n
    go true h = omega arith
    go false h = omega arith

-- a bound kept by both ways of a test
cond_below : (t : Bool) (a b c k : ℕ) → (a ≤ k → b ≤ k) → cond t a c ≤ k → cond t b c ≤ k
cond_below true a b c k f h = f h
cond_below false a b c k f h = h

-- a store at a level before k
deepest_of_set : (marks : List ℕ) (level m k n : ℕ) → level < k → deepest_of marks n ≤ k → deepest_of (set marks level m) n ≤ k
unfolding deepest_of
deepest_of_set marks level m k zero h d = omega arith
deepest_of_set marks level m k (suc n) h d = go (λ e. deepest_of_set marks level m k n h e) (dec_lt n k)
  where
    go : (deepest_of marks n ≤ k → deepest_of (set marks level m) n ≤ k) → Dec (n < k)
        → cond (eqb (get_or (set marks level m) n 0) 0) (deepest_of (set marks level m) n) (suc n) ≤ k
    go before (yes g) = omega (arith, deepest_of_most (set marks level m) (suc n))
    go before (no g) =
        rw (get_or-set_other marks level n m 0 (λ e. g (omega arith)))
        (cond_below (eqb (get_or marks n 0) 0) (deepest_of marks n) (deepest_of (set marks level m) n) (suc n) k before d)

pub deepest_set : (marks : List ℕ) (level m k : ℕ) → level < k → deepest marks ≤ k → deepest (set marks level m) ≤ k
unfolding deepest
deepest_set marks level m k h d = rw (length-set marks level m) (deepest_of_set marks level m k (length marks) h d)

-- a level without marks among levels without marks
none_waits : (levels n : ℕ) → get_or (no_marks levels) n 0 ≡ 0
unfolding no_marks
none_waits zero n = refl
none_waits (suc levels) zero = refl
none_waits (suc levels) (suc n) = none_waits levels n

deepest_of_none : (levels n : ℕ) → deepest_of (no_marks levels) n ≡ 0
unfolding deepest_of
deepest_of_none levels zero = refl
deepest_of_none levels (suc n) = rw (none_waits levels n) (deepest_of_none levels n)

pub deepest_none : (levels : ℕ) → deepest (no_marks levels) ≡ 0
unfolding deepest
deepest_none levels = deepest_of_none levels (length (no_marks levels))
