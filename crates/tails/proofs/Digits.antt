-- Tails of numbers in sixteens: one digit more, and a tail of a tail.
-- By division with rest. Assumes nothing.
use mathlib.Core.Path.{◌≡◌, refl, sym, ap, ap₂, ◌∙◌}
use mathlib.Core.Bool.{◌&&◌}
use Prim.Native.Nat.{ℕ, zero, suc, ◌+◌, ◌*◌, ◌/◌, ◌%◌, ◌^◌, ◌≤◌, ◌<◌}
use native.Mathlib.Decide.{ℕ_discrete}
use native.Mathlib.Nat.{add_comm, pow-suc, pow-succ', one-le-pow, le_dest, dvd-mul_right, mod-lt, mod-eq_of_lt, mod-mod_of_dvd, add-mul-mod_self_right, eq_of_mul-eq-mul_right}
use native.Mathlib.Omega.{arith}
use borrow.Author.Tests.{eq-eqb, ne_eqb}
use lib.Arith.{digits_lt, mod-mul}
use lib.Dec.{eqb}
use lib.Pow.{pow-add}

-- four bits are a digit
pub digits_of_bits : (j : ℕ) → 2 ^ (4 * j) ≡ 16 ^ j
digits_of_bits zero = refl
digits_of_bits (suc j) =
    let four : 4 * suc j ≡ 4 + 4 * j = omega arith in
    ap (λ (k : ℕ). 2 ^ k) four ∙ pow-add 2 4 (4 * j) ∙ ap (λ (x : ℕ). 16 * x) (digits_of_bits j) ∙ sym (pow-succ' 16 j)

pub power_positive : (j : ℕ) → 0 < 16 ^ j
power_positive j = one-le-pow j 16 (omega arith)

-- a tail of a digit more: the digit above the tail
pub tail_suc : (u j : ℕ) → u % 16 ^ suc j ≡ u % 16 ^ j + u / 16 ^ j % 16 * 16 ^ j
tail_suc u j =
    ap (λ (p : ℕ). u % p) (pow-succ' 16 j)
    ∙ mod-mul u {m = 16} {c = 16 ^ j} (omega arith) (power_positive j)
    ∙ add_comm (u / 16 ^ j % 16 * 16 ^ j) (u % 16 ^ j)

-- the tail of a shorter length
pub tail_tail : (u i j : ℕ) → i ≤ j → u % 16 ^ j % 16 ^ i ≡ u % 16 ^ i
tail_tail u i j h = go (le_dest h)
  where
    go : (k : ℕ) × (i + k ≡ j) → u % 16 ^ j % 16 ^ i ≡ u % 16 ^ i
    go (k, e) = rw (← e, pow-add 16 i k) (mod-mod_of_dvd (16 ^ i) {b = 16 ^ i * 16 ^ k} u (dvd-mul_right (16 ^ i) (16 ^ k)))

-- a digit s above a tail m of j digits
pub above_below : (j m s : ℕ) → m < 16 ^ j → s < 16 → m + s * 16 ^ j < 16 ^ suc j
above_below j m s h g =
    let below : s * 16 ^ j + m < 16 * 16 ^ j = digits_lt g h in
    let power : 16 ^ suc j ≡ 16 ^ j * 16 = pow-suc 16 j in
    omega arith

pub above_tail : (j m s i : ℕ) → m < 16 ^ j → i ≤ j → (m + s * 16 ^ j) % 16 ^ i ≡ m % 16 ^ i
above_tail j m s i h g =
    sym (tail_tail (m + s * 16 ^ j) i j g) ∙ ap (λ (n : ℕ). n % 16 ^ i) (add-mul-mod_self_right m s (16 ^ j) ∙ mod-eq_of_lt h)

-- equal numbers have equal low parts
low_of_equal : (p a d m s : ℕ) → a < p → m < p → a + d * p ≡ m + s * p → a ≡ m
low_of_equal p a d m s g h e =
    sym (add-mul-mod_self_right a d p ∙ mod-eq_of_lt g) ∙ ap (λ (n : ℕ). n % p) e ∙ add-mul-mod_self_right m s p ∙ mod-eq_of_lt h

-- two numbers are equal exactly if their low parts and their high parts are
pub parts_fit : (p a d m s : ℕ) → a < p → m < p → eqb (a + d * p) (m + s * p) ≡ (eqb a m && eqb d s)
parts_fit p a d m s g h = go (ℕ_discrete a m) (ℕ_discrete d s)
  where
    go : Dec (a ≡ m) → Dec (d ≡ s) → eqb (a + d * p) (m + s * p) ≡ (eqb a m && eqb d s)
    go (yes e) (yes f) = rw (eq-eqb a m e, eq-eqb d s f) (eq-eqb (a + d * p) (m + s * p) (ap₂ (λ (x y : ℕ). x + y * p) e f))
    go (yes e) (no f) = rw (eq-eqb a m e, ne_eqb d s f) (ne_eqb (a + d * p) (m + s * p) (λ q. f (high q)))
      where
        high : a + d * p ≡ m + s * p → d ≡ s
        high q =
            let part : d * p ≡ s * p = omega arith in
            eq_of_mul-eq-mul_right p (omega arith) d s part
    go (no e) f = rw (ne_eqb a m e) (ne_eqb (a + d * p) (m + s * p) (λ q. e (low_of_equal p a d m s g h q)))

-- a number ends in the longer tail exactly if it ends in the shorter one with the digit above
pub above_fits : (u j m s : ℕ) → m < 16 ^ j → s < 16 → eqb (u % 16 ^ suc j) (m + s * 16 ^ j) ≡ (eqb (u % 16 ^ j) m && eqb (u / 16 ^ j % 16) s)
above_fits u j m s h g = rw (tail_suc u j) (parts_fit (16 ^ j) (u % 16 ^ j) (u / 16 ^ j % 16) m s (mod-lt u (power_positive j)) h)
