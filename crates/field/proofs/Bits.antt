-- A power of two put to a number or taken from it changes that one bit.
-- By halving: bit s + 1 of a number is bit s of its half. Assumes nothing.
use mathlib.Core.Path.{◌≡◌, refl, sym, ap, ◌∙◌}
use Prim.Native.Nat.{ℕ, zero, suc, ◌+◌, ◌-◌, ◌/◌, ◌%◌, ◌^◌, ◌≤◌}
use native.Mathlib.Nat.{pow-succ', div-div-eq-div-mul}
use native.Mathlib.Omega.{arith}
use borrow.Author.Tests.{eq-eqb}
use Rattle.walk.specs.Marks.{waits}
use Rattle.walk.proofs.Levels.{mark_stands}

abbrev pub bit : ℕ → ℕ → ℕ
bit m s = m / 2 ^ s % 2

half_shift : (m s : ℕ) → m / 2 ^ suc s ≡ m / 2 / 2 ^ s
half_shift m s = ap (λ (p : ℕ). m / p) (pow-succ' 2 s) ∙ sym (div-div-eq-div-mul m 2 (2 ^ s))

half_bit : (m s : ℕ) → bit m (suc s) ≡ bit (m / 2) s
half_bit m s = ap (λ (n : ℕ). n % 2) (half_shift m s)

-- ---- a power more

pub bit_added : (t m : ℕ) → bit m t ≡ 0 → bit (m + 2 ^ t) t ≡ 1
bit_added zero m h = omega arith
bit_added (suc t) m h =
    let half : (m + 2 ^ suc t) / 2 ≡ m / 2 + 2 ^ t = omega arith in
    half_bit (m + 2 ^ suc t) t ∙ rw half (bit_added t (m / 2) (sym (half_bit m t) ∙ h))

pub bit_added_other : (t s m : ℕ) → bit m t ≡ 0 → (s ≡ t → ⊥) → bit (m + 2 ^ t) s ≡ bit m s
bit_added_other zero zero m h g = absurd (g refl)
bit_added_other zero (suc s) m h g =
    let half : (m + 1) / 2 ≡ m / 2 = omega arith in
    half_bit (m + 1) s ∙ rw half (sym (half_bit m s))
bit_added_other (suc t) zero m h g = omega arith
bit_added_other (suc t) (suc s) m h g =
    let half : (m + 2 ^ suc t) / 2 ≡ m / 2 + 2 ^ t = omega arith in
    half_bit (m + 2 ^ suc t) s
    ∙ rw half (bit_added_other t s (m / 2) (sym (half_bit m t) ∙ h) (λ e. g (ap suc e)))
    ∙ sym (half_bit m s)

-- ---- a power less

pub bit_taken : (t m : ℕ) → bit m t ≡ 1 → bit (m - 2 ^ t) t ≡ 0
bit_taken zero m h = omega arith
bit_taken (suc t) m h =
    let half : (m - 2 ^ suc t) / 2 ≡ m / 2 - 2 ^ t = omega arith in
    half_bit (m - 2 ^ suc t) t ∙ rw half (bit_taken t (m / 2) (sym (half_bit m t) ∙ h))

pub bit_taken_other : (t s m : ℕ) → bit m t ≡ 1 → (s ≡ t → ⊥) → bit (m - 2 ^ t) s ≡ bit m s
unfolding waits
bit_taken_other zero zero m h g = absurd (g refl)
bit_taken_other zero (suc s) m h g =
    let half : (m - 1) / 2 ≡ m / 2 = omega arith in
    half_bit (m - 1) s ∙ rw half (sym (half_bit m s))
bit_taken_other (suc t) zero m h g =
    let within : 2 ^ suc t ≤ m = mark_stands m (suc t) (eq-eqb (bit m (suc t)) 1 h) in
    omega arith
bit_taken_other (suc t) (suc s) m h g =
    let half : (m - 2 ^ suc t) / 2 ≡ m / 2 - 2 ^ t = omega arith in
    half_bit (m - 2 ^ suc t) s
    ∙ rw half (bit_taken_other t s (m / 2) (sym (half_bit m t) ∙ h) (λ e. g (ap suc e)))
    ∙ sym (half_bit m s)
