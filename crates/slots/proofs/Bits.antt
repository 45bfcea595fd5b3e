-- Numbers and powers of two: a shift by 64 or more leaves nothing, and a number below a power has no bit from it on. Assumes nothing.
use mathlib.Core.Path.{◌≡◌, sym}
use Prim.Native.Nat.{ℕ, ◌/◌, ◌^◌, ◌≤◌, ◌<◌}
use native.Mathlib.Decide.{dec_lt}
use native.Mathlib.Nat.{lt_of_lt_of_le, div-eq_of_lt}
use native.Mathlib.Omega.{arith}
use borrow.Author.Tests.{ne_eqb, lt-ltb, le-ltb}
use lib.Dec.{eqb, ltb}
use lib.Pow.{pow_mono, pow_pos}
use Rattle.std.specs.Prelude.{Option, Some, None, SomeIff}
use Rattle.std.proofs.lemmas.Nat.{le-div}
use Rattle.std.specs.Option.{unwrap_or}

-- a 64-bit number is below a power of 64 or more
pub below_power : (v n : ℕ) → v < 2 ^ 64 → 64 ≤ n → v < 2 ^ n
below_power v n h k = lt_of_lt_of_le h (pow_mono k)

pub shifted_or_none : (v n : ℕ) (r : Option ℕ) → v < 2 ^ 64 → SomeIff r (n < 64) (v / 2 ^ n) → unwrap_or r 0 ≡ v / 2 ^ n
shifted_or_none v n (Some x) h known = known.1
shifted_or_none v n None h known = sym (div-eq_of_lt (below_power v n h (omega (arith, known))))

pub none_above : (v n : ℕ) → eqb (v / 2 ^ n) 0 ≡ ltb v (2 ^ n)
none_above v n = go (dec_lt v (2 ^ n))
  where
    go : Dec (v < 2 ^ n) → eqb (v / 2 ^ n) 0 ≡ ltb v (2 ^ n)
    go (yes h) = rw (div-eq_of_lt h, lt-ltb v (2 ^ n) h)
    go (no h) = rw (le-ltb v (2 ^ n) (omega arith), ne_eqb (v / 2 ^ n) 0 (λ e. let one : 1 ≤ v / 2 ^ n = le-div 1 v (2 ^ n) (pow_pos n) (omega arith) in omega (arith, e, one)))
