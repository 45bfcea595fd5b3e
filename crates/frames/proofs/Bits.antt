-- A bit of a number, tested by a mask. Assumes nothing.
use mathlib.Core.Path.{◌≡◌, refl, ◌∙◌}
use mathlib.Core.Bool.{not}
use Prim.Native.Nat.{ℕ, zero, suc, ◌*◌, ◌/◌, ◌%◌, ◌^◌, ◌<◌}
use native.Mathlib.Nat.{div-one}
use native.Mathlib.Omega.{arith}
use lib.Bits.{bit_and}
use lib.Dec.{eqb}
use lib.Pow.{pow_pos}
use borrow.Author.Tests.{eq-eqb, ne_eqb}
use Rattle.std.proofs.lemmas.Nat.Bits.{and_pow}
use Rattle.frames.specs.Flags.{is_odd}

pub bit_set : (n k : ℕ) → not (eqb (bit_and n (2 ^ k)) 0) ≡ is_odd (n / 2 ^ k)
bit_set n k = rw (and_pow n k) (go (n / 2 ^ k % 2) (omega arith))
  where
    go : (b : ℕ) → b < 2 → not (eqb (b * 2 ^ k) 0) ≡ eqb b 1
    go zero h = rw (eq-eqb (0 * 2 ^ k) 0 (omega arith)) refl
    go (suc zero) h = rw (ne_eqb (1 * 2 ^ k) 0 (λ e. omega (arith, pow_pos k))) refl
    go (suc (suc b)) h = absurd (omega arith)

pub lowest_set : (n : ℕ) → not (eqb (bit_and n 1) 0) ≡ is_odd n
lowest_set n = bit_set n 0 ∙ rw div-one
