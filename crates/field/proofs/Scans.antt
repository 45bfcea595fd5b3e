-- The two scans: the lowest slot that waits is found, and the deepest level with a mark.
-- By induction over the slots and the levels looked at. Assumes nothing.
use mathlib.Core.Path.{◌≡◌, refl, sym, ap, ◌∙◌}
use mathlib.Core.Bool.{Bool, true, false, cond}
use Prim.Native.Nat.{ℕ, zero, suc, ◌/◌, ◌^◌, ◌≤◌, ◌<◌}
use native.Mathlib.Decide.{ℕ_discrete}
use native.Mathlib.Nat.{pow-suc, div-div-eq-div-mul}
use native.Mathlib.Omega.{arith}
use mathlib.Core.List.{List}
use borrow.Author.Tests.{eq-eqb, eqb-true, eqb-false}
use lib.Dec.{eqb}
use lib.ListN.{get_or}
use Rattle.walk.specs.Marks.{waits, lowest_from, deepest_of}
use Rattle.field.proofs.Bits.{bit}

-- ---- the lowest slot that waits, of the n + 1 from s on

shift_half : (m s : ℕ) → m / 2 ^ suc s ≡ m / 2 ^ s / 2
shift_half m s = ap (λ (p : ℕ). m / p) (pow-suc 2 s) ∙ sym (div-div-eq-div-mul m (2 ^ s) 2)

pub lowest_from_waits : (m s n : ℕ) → m / 2 ^ s < 2 ^ suc n → (m / 2 ^ s ≡ 0 → ⊥) → waits m (lowest_from m s n) ≡ true
unfolding lowest_from waits
lowest_from_waits m s zero h g = eq-eqb (bit m s) 1 (omega arith)
lowest_from_waits m s (suc n) h g = go (waits m s) refl (lowest_from_waits m (suc s) n)
  where
    half : m / 2 ^ suc s ≡ m / 2 ^ s / 2
    half = shift_half m s

    go : (b : Bool) → waits m s ≡ b
        → (m / 2 ^ suc s < 2 ^ suc n → (m / 2 ^ suc s ≡ 0 → ⊥) → waits m (lowest_from m (suc s) n) ≡ true)
        → waits m (cond b s (lowest_from m (suc s) n)) ≡ true
    go true e rest = e
    go false e rest =
        let even : bit m s ≡ 1 → ⊥ = eqb-false (bit m s) 1 e in
        rest (rw half (omega arith)) (λ z. g (omega (arith, half)))

-- ---- the deepest of the first n levels with a mark

-- from the level that is found on there is no mark
pub deepest_of_last : (marks : List ℕ) (n i : ℕ) → deepest_of marks n ≤ i → i < n → get_or marks i 0 ≡ 0
unfolding deepest_of
deepest_of_last marks zero i h g = absurd (omega arith)
deepest_of_last marks (suc n) i h g = go (eqb (get_or marks n 0) 0) refl (ℕ_discrete i n) h (deepest_of_last marks n i)
  where
    go : (b : Bool) → eqb (get_or marks n 0) 0 ≡ b → Dec (i ≡ n) → cond b (deepest_of marks n) (suc n) ≤ i
        → (deepest_of marks n ≤ i → i < n → get_or marks i 0 ≡ 0) → get_or marks i 0 ≡ 0
    go true e (yes p) f rest = rw p (eqb-true (get_or marks n 0) 0 e)
    go true e (no p) f rest = rest f (omega arith)
    go false e d f rest = absurd (omega arith)

pub deepest_of_mark : (marks : List ℕ) (n j : ℕ) → deepest_of marks n ≡ suc j → get_or marks j 0 ≡ 0 → ⊥
unfolding deepest_of
deepest_of_mark marks zero j h e = absurd (omega arith)
deepest_of_mark marks (suc n) j h e = go (eqb (get_or marks n 0) 0) refl h (λ p. deepest_of_mark marks n j p e)
  where
    go : (b : Bool) → eqb (get_or marks n 0) 0 ≡ b → cond b (deepest_of marks n) (suc n) ≡ suc j → (deepest_of marks n ≡ suc j → ⊥) → ⊥
    go true f p rest = rest p
    go false f p rest =
        let same : j ≡ n = omega arith in
        eqb-false (get_or marks n 0) 0 f (ap (λ (i : ℕ). get_or marks i 0) (sym same) ∙ e)
