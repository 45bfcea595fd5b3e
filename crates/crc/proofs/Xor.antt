-- Laws of exclusive or that the library lacks: pairs can be exchanged, what is put over twice is gone, and a number over its complement
-- is all ones. By induction over the bits. Assumes nothing.
use mathlib.Core.Path.{◌≡◌, refl, sym, ap, ap₂, ◌∙◌}
use Prim.Native.Nat.{ℕ, zero, suc, ◌+◌, ◌-◌, ◌*◌, ◌/◌, ◌%◌, ◌^◌, ◌<◌}
use native.Mathlib.Nat.{pow-suc}
use native.Mathlib.Omega.{arith}
use lib.Bits.{bit_xor, differ, xor_step, xor_zero_r, xor_self, xor_comm, xor_assoc}

-- of two pairs, the second of the first and the first of the second change places
pub xor_exchange : (a b c d : ℕ) → bit_xor (bit_xor a b) (bit_xor c d) ≡ bit_xor (bit_xor a c) (bit_xor b d)
xor_exchange a b c d =
    xor_assoc a b (bit_xor c d)
    ∙ ap (bit_xor a) (sym (xor_assoc b c d) ∙ ap (λ (x : ℕ). bit_xor x d) (xor_comm b c) ∙ xor_assoc c b d)
    ∙ sym (xor_assoc a c (bit_xor b d))

-- a number put over twice is gone
pub xor_twice : (a b : ℕ) → bit_xor a (bit_xor a b) ≡ b
xor_twice a b = sym (xor_assoc a a b) ∙ ap (λ (x : ℕ). bit_xor x b) (xor_self a)

-- two numbers whose exclusive or is nothing are one
pub xor_nothing : (a b : ℕ) → bit_xor a b ≡ 0 → a ≡ b
xor_nothing a b e = sym (xor_zero_r a) ∙ ap (bit_xor a) (sym e) ∙ xor_twice a b

-- a number of k bits over its complement
pub xor_complement : (k a : ℕ) → a < 2 ^ k → bit_xor a (2 ^ k - 1 - a) ≡ 2 ^ k - 1
xor_complement zero a h = let none : a ≡ 0 = omega arith in rw none
xor_complement (suc k) a h =
    let double : 2 ^ suc k ≡ 2 ^ k * 2 = pow-suc 2 k in
    let other : ℕ = 2 ^ suc k - 1 - a in
    let half : other / 2 ≡ 2 ^ k - 1 - a / 2 = omega (arith, double, h) in
    let bit : other % 2 ≡ 1 - a % 2 = omega (arith, double, h) in
    let above = ap (bit_xor (a / 2)) half ∙ xor_complement k (a / 2) (omega (arith, double, h)) in
    let below = ap (differ (a % 2)) bit ∙ last (a % 2) (omega arith) in
    let step : bit_xor a other ≡ (2 ^ k - 1) * 2 + 1 = xor_step a other ∙ ap₂ (λ (x y : ℕ). x * 2 + y) above below in
    omega (arith, double, h, step)
  where
    last : (x : ℕ) → x < 2 → differ x (1 - x) ≡ 1
    last zero l = refl
    last (suc zero) l = refl
    last (suc (suc x)) l = absurd (omega arith)
