-- The register is linear: what leaves two registers that are put over each other is what leaves each, put over each other. So a byte's eight bits leave
-- at once: the high byte moves down, and what eight bits make of the low byte is put over it. By the laws of exclusive or. Assumes nothing.
use mathlib.Core.Path.{◌≡◌, refl, sym, ap, ap₂, ◌∙◌}
use Prim.Native.Nat.{ℕ, zero, suc, ◌*◌, ◌/◌, ◌%◌, ◌^◌, ◌<◌}
use native.Mathlib.Nat.{mod-lt, mul-one, zero-mul}
use native.Mathlib.Decide.{ℕ_discrete}
use native.Mathlib.Omega.{arith}
use borrow.Author.Tests.{eq-eqb, ne_eqb}
use lib.Bits.{bit_xor, xor_zero_r, xor_self, xor_shr, xor_mod, xor_shifted, shifted_half, shifted_even}
use lib.Pow.{pow_pos, split}
use Rattle.crc.specs.Check.{polynomial, shifted, shifts}
use Rattle.crc.proofs.Xor.{xor_exchange}

-- the polynomial as often as the bit that leaves says
shifted_by : (x : ℕ) → shifted x ≡ bit_xor (x / 2) (x % 2 * polynomial)
unfolding shifted
shifted_by x = go (ℕ_discrete (x % 2) 1)
  where
    go : Dec (x % 2 ≡ 1) → shifted x ≡ bit_xor (x / 2) (x % 2 * polynomial)
    go (yes e) = rw (eq-eqb (x % 2) 1 e, e)
    go (no e) = let even : x % 2 ≡ 0 = omega arith in rw (ne_eqb (x % 2) 1 e, even) (sym (xor_zero_r (x / 2)))

-- two bits that leave
bits_times : (p a b : ℕ) → a < 2 → b < 2 → bit_xor a b * p ≡ bit_xor (a * p) (b * p)
bits_times p zero b h k = rw (zero-mul p)
bits_times p (suc zero) zero h k = rw (zero-mul p) (sym (xor_zero_r (1 * p)))
bits_times p (suc zero) (suc zero) h k = rw (zero-mul p) (sym (xor_self (1 * p)))
bits_times p (suc zero) (suc (suc b)) h k = absurd (omega arith)
bits_times p (suc (suc a)) b h k = absurd (omega arith)

shifted_over : (x y : ℕ) → shifted (bit_xor x y) ≡ bit_xor (shifted x) (shifted y)
shifted_over x y =
    shifted_by (bit_xor x y)
    ∙ ap₂ bit_xor (xor_shr x y 1)
    (ap (λ (b : ℕ). b * polynomial) (xor_mod x y 1) ∙ bits_times polynomial (x % 2) (y % 2) (omega arith) (omega arith))
    ∙ xor_exchange (x / 2) (y / 2) (x % 2 * polynomial) (y % 2 * polynomial)
    ∙ sym (ap₂ bit_xor (shifted_by x) (shifted_by y))

pub shifts_over : (n x y : ℕ) → shifts n (bit_xor x y) ≡ bit_xor (shifts n x) (shifts n y)
unfolding shifts
shifts_over zero x y = refl
shifts_over (suc n) x y = ap (shifts n) (shifted_over x y) ∙ shifts_over n (shifted x) (shifted y)

-- n bits 0 leave, and the rest moves down
pub shifts_down : (n h : ℕ) → shifts n (h * 2 ^ n) ≡ h
unfolding shifts
shifts_down zero h = mul-one h
shifts_down (suc n) h =
    ap (shifts n) (shifted_by (h * 2 ^ suc n) ∙ rw (shifted_half h n, shifted_even h n) (xor_zero_r (h * 2 ^ n))) ∙ shifts_down n h

-- n bits leave a register: what is above them moves down, and what they come to by themselves is put over it
pub shifts_apart : (n x : ℕ) → shifts n x ≡ bit_xor (x / 2 ^ n) (shifts n (x % 2 ^ n))
shifts_apart n x =
    let high : ℕ = x / 2 ^ n in
    let low : ℕ = x % 2 ^ n in
    ap (shifts n) (sym (split x n) ∙ sym (xor_shifted high n low (mod-lt x (pow_pos n))))
    ∙ shifts_over n (high * 2 ^ n) low
    ∙ ap (λ (y : ℕ). bit_xor y (shifts n low)) (shifts_down n high)
