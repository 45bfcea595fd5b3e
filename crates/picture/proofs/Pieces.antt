-- The pieces of a line: a round's number byte by byte, and a tail, the digits that are free before those of the mask. By the digits of a number, and
-- by the pieces placed one after the other. Assumes nothing.
use mathlib.Core.Path.{◌≡◌, refl, subst}
use Prim.Native.Nat.{ℕ, zero, suc, ◌+◌, ◌-◌, ◌/◌, ◌%◌, ◌≤◌, ◌<◌}
use native.Mathlib.Omega.{arith}
use mathlib.Core.List.{List, [], ◌∷◌, ◌++◌}
use lib.ListN.{length, take, replicate, length-append, length-replicate}
use Rattle.lent.specs.Puts.{PutsAt}
use Rattle.lent.proofs.Puts.{puts_then}
use Rattle.digits.specs.Digits.{digit, hex_digits}
use Rattle.digits.proofs.Digits.{length_hex_digits}
use Rattle.digits.proofs.Decimal.{decimal_one, decimal_more}
use Rattle.picture.specs.Drawn.{round_shown, tail_shown}

-- ---- a round's number

pub round_1 : (n : ℕ) {a : ℕ} → n < 10 → a ≡ digit (n % 10) → 0x20 ∷ 0x20 ∷ 0x20 ∷ 0x20 ∷ a ∷ 0x20 ∷ [] ≡ round_shown n ++ 0x20 ∷ []
unfolding round_shown
round_1 n h p =
    let same : n % 10 ≡ n = omega arith in
    rw (decimal_one n h, p, same) refl

pub round_2 : (n : ℕ) {a b : ℕ} → 10 ≤ n → n < 100 → a ≡ digit (n / 10 % 10) → b ≡ digit (n % 10)
    → 0x20 ∷ 0x20 ∷ 0x20 ∷ a ∷ b ∷ 0x20 ∷ [] ≡ round_shown n ++ 0x20 ∷ []
unfolding round_shown
round_2 n h k p q =
    let same : n / 10 % 10 ≡ n / 10 = omega arith in
    rw (decimal_more n h, decimal_one (n / 10) (omega arith), p, same, q) refl

pub round_3 : (n : ℕ) {a b c : ℕ} → 100 ≤ n → n < 1000 → a ≡ digit (n / 100) → b ≡ digit (n / 10 % 10) → c ≡ digit (n % 10)
    → 0x20 ∷ 0x20 ∷ a ∷ b ∷ c ∷ 0x20 ∷ [] ≡ round_shown n ++ 0x20 ∷ []
unfolding round_shown
round_3 n h k p q r =
    let top : n / 10 / 10 ≡ n / 100 = omega arith in
    rw (decimal_more n (omega arith), decimal_more (n / 10) (omega arith), top, decimal_one (n / 100) (omega arith), p, q, r) refl

-- ---- a tail

take_replicate : (m n a : ℕ) → m ≤ n → take m (replicate n a) ≡ replicate m a
take_replicate zero n a h = refl
take_replicate (suc m) zero a h = absurd (omega arith)
take_replicate (suc m) (suc n) a h = rw (take_replicate m n a (omega arith))

-- so many places of an array of -
abbrev free : List ℕ
free = replicate 16 0x2d

pub free_places : (level : ℕ) → take (16 - level) free ≡ replicate (16 - level) 0x2d
free_places level = take_replicate (16 - level) 16 0x2d (omega arith)

pub length_free : (level : ℕ) → 16 - level ≡ length (take (16 - level) free)
length_free level = rw (free_places level, length-replicate)

pub length_tail : (level mask : ℕ) → level ≤ 16 → length (tail_shown level mask) ≡ 16
unfolding tail_shown
length_tail level mask h = rw (length-append, length-replicate, length_hex_digits) (omega arith)

pub tail_puts : (level mask : ℕ) {at m r : ℕ} {e f g : List ℕ} → level ≤ 16 → PutsAt at (take (16 - level) free) e m f
    → PutsAt m (hex_digits level mask) f r g → at + 16 ≤ length e → PutsAt at (tail_shown level mask) e r g
unfolding tail_shown
tail_puts level mask {at} {m} {r} {e} {f} {g} h p q k =
    let few = length_free level in
    let digits = length_hex_digits level mask in
    subst (λ (s : List ℕ). PutsAt at (s ++ hex_digits level mask) e r g) (free_places level) (puts_then p q (omega (arith, p.next)))
