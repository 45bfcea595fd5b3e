-- Patterns and pairs: the shifts and masks of the code give the tables of the definitions, and each pair comes back from its pattern.
-- Each by one computed test. Assumes nothing.
use mathlib.Core.Path.{◌≡◌, refl, sym, ap, ap₂, ◌∙◌}
use mathlib.Core.Bool.{Bool, true, false, cond}
use Prim.Native.Nat.{ℕ, ◌*◌, ◌/◌, ◌%◌, ◌<◌}
use native.Mathlib.Omega.{arith}
use lib.Bits.{bit_and, bit_or}
use lib.Dec.{eqb}
use borrow.Author.Tests.{eqb-true, eq-eqb, ne_eqb}
use Rattle.lent.proofs.Every.{every, every_at}
use Rattle.tracks.specs.Track.{pattern}
use Rattle.tracks.specs.Steps.{pair_of}

-- one of four, as the code picks it: by whether the pair's high bit is 0, then by whether its low bit is
abbrev pub picked : Bool → Bool → ℕ
picked high low = cond low (cond high 0x40 0x04) (cond high 0x40 0x04 / 4)

picked_right : (v : ℕ) → v < 256 → picked (eqb (bit_and v 2) 0) (eqb (bit_and v 1) 0) ≡ pattern (v % 4)
unfolding every pattern
picked_right v h =
    eqb-true (picked (eqb (bit_and v 2) 0) (eqb (bit_and v 1) 0)) (pattern (v % 4))
    (every_at 256 (λ k. eqb (picked (eqb (bit_and k 2) 0) (eqb (bit_and k 1) 0)) (pattern (k % 4))) refl v h)

-- the pattern of the lowest pair of v
pub picked_is : (v : ℕ) → v < 256 → (high low : Bool) → eqb (bit_and v 2) 0 ≡ high → eqb (bit_and v 1) 0 ≡ low
    → picked high low ≡ pattern (v % 4)
picked_is v h high low p q = ap₂ picked (sym p) (sym q) ∙ picked_right v h

-- the pair that may stand at b, as the code makes it
abbrev pub near : ℕ → ℕ
near b = bit_or (bit_and (bit_or b (b / 4)) 1 * 2 % 256) (bit_and (bit_or b (b / 16)) 1)

near_right : (b : ℕ) → b < 256 → pair_of b ≡ cond (eqb (pattern (near b % 4)) b) (near b) 4
unfolding every pattern pair_of
near_right b h =
    eqb-true (pair_of b) (cond (eqb (pattern (near b % 4)) b) (near b) 4)
    (every_at 256 (λ k. eqb (pair_of k) (cond (eqb (pattern (near k % 4)) k) (near k) 4)) refl b h)

pub near_is : (b : ℕ) → b < 256 → pattern (near b % 4) ≡ b → near b ≡ pair_of b
near_is b h e = sym (near_right b h ∙ ap (λ (t : Bool). cond t (near b) 4) (eq-eqb _ b e))

pub near_is_not : (b : ℕ) → b < 256 → (pattern (near b % 4) ≡ b → ⊥) → 4 ≡ pair_of b
near_is_not b h e = sym (near_right b h ∙ ap (λ (t : Bool). cond t (near b) 4) (ne_eqb _ b e))

pub pair_of_pattern : (p : ℕ) → p < 4 → pair_of (pattern p) ≡ p
unfolding every pattern pair_of
pair_of_pattern p h = eqb-true (pair_of (pattern p)) p (every_at 4 (λ k. eqb (pair_of (pattern k)) k) refl p h)

-- by the four tests of `pair_of`
by_tests : (b : ℕ) (k l m n : Bool) → eqb b 0x40 ≡ k → eqb b 0x10 ≡ l → eqb b 0x04 ≡ m → eqb b 0x01 ≡ n
    → cond k 0 (cond l 1 (cond m 2 (cond n 3 4))) < 4 → pattern (cond k 0 (cond l 1 (cond m 2 (cond n 3 4)))) ≡ b
unfolding pattern
by_tests b true l m n p q r s h = sym (eqb-true b 0x40 p)
by_tests b false true m n p q r s h = sym (eqb-true b 0x10 q)
by_tests b false false true n p q r s h = sym (eqb-true b 0x04 r)
by_tests b false false false true p q r s h = sym (eqb-true b 0x01 s)
by_tests b false false false false p q r s h = absurd (omega arith)

pub pattern_of_pair : (b : ℕ) → pair_of b < 4 → pattern (pair_of b) ≡ b
unfolding pair_of
pattern_of_pair b h = by_tests b (eqb b 0x40) (eqb b 0x10) (eqb b 0x04) (eqb b 0x01) refl refl refl refl h
