-- Numbers put over each other: what comes to 0 has only 0 in it. A sum of two is their union and what they share. Assumes nothing.
use mathlib.Core.Path.{◌≡◌}
use Prim.Native.Nat.{ℕ, zero, suc, ◌<◌}
use native.Mathlib.Decide.{ℕ_discrete}
use native.Mathlib.Omega.{arith}
use lib.Bits.{bit_or, or_add_and, and_le_l, and_le_r}

-- n numbers put over each other
unfoldable pub ors : ℕ → (ℕ → ℕ) → ℕ
ors zero f = 0
ors (suc n) f = bit_or (ors n f) (f n)

or_none : (a b : ℕ) → bit_or a b ≡ 0 → (a ≡ 0) × (b ≡ 0)
or_none a b h = (omega (arith, or_add_and a b, and_le_r a b), omega (arith, or_add_and a b, and_le_l a b))

pub ors_none : (n : ℕ) (f : ℕ → ℕ) → ors n f ≡ 0 → (k : ℕ) → k < n → f k ≡ 0
unfolding ors
ors_none zero f h k l = absurd (omega arith)
ors_none (suc n) f h k l =
    let both = or_none (ors n f) (f n) h in
    go (ℕ_discrete k n) both.1 (ors_none n f both.0 k)
  where
    go : Dec (k ≡ n) → f n ≡ 0 → (k < n → f k ≡ 0) → f k ≡ 0
    go (yes e) here below = rw e here
    go (no e) here below = below (omega arith)
