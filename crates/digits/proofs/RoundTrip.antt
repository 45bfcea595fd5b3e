-- Both ways: a digit's byte has the digit's value, and the row for bytes stands for them and is the only one that does. By induction over the row.
-- Assumes nothing.
use mathlib.Core.Path.{◌≡◌, refl, sym, ◌∙◌}
use mathlib.Core.Bool.{Bool, true, false, ◌&&◌, and-eq-true_iff}
use mathlib.Core.List.{List, [], ◌∷◌}
use Prim.Native.Nat.{ℕ, suc, ◌+◌, ◌-◌, ◌/◌, ◌%◌, ◌≤◌, ◌<◌}
use native.Mathlib.Omega.{arith}
use borrow.Author.Tests.{lt-ltb, ltb-true, ltb-false, leb-true, leb-false, eqb-true}
use lib.Dec.{eqb, leb, ltb}
use Rattle.lent.specs.Bytes.{Bytes}
use Rattle.digits.specs.Digits.{digit_of, is_digit, digit, hex_digits}
use Rattle.digits.specs.Rows.{is_pair, is_row, pair_of, row_bytes, row_text}
use Rattle.digits.proofs.Digits.{digit_low, digit_0_9, digit_between, digit_a_f, digit_high, digit_decimal, digit_letter}

-- ---- digits

-- the value of a digit's byte is the digit
pub value_of_digit : (n : ℕ) → digit_of (digit n) ≡ n % 16
value_of_digit n = go (ltb (n % 16) 10) refl
  where
    go : (t : Bool) → ltb (n % 16) 10 ≡ t → digit_of (digit n) ≡ n % 16
    go true e =
        let h : n % 16 < 10 = ltb-true (n % 16) 10 e in
        rw (← (digit_decimal n h), ← (digit_0_9 (0x30 + n % 16) (omega arith) (omega arith))) (omega arith)
    go false e =
        let h : 10 ≤ n % 16 = ltb-false (n % 16) 10 e in
        rw (← (digit_letter n h), ← (digit_a_f (0x41 + (n % 16 - 10)) (omega arith) (omega arith))) (omega arith)

-- a byte that is a digit is that digit's byte
pub digit_of_value : (b n : ℕ) → is_digit b ≡ true → n % 16 ≡ digit_of b → digit n ≡ b
digit_of_value b n e is = low (ltb b 0x30) refl
  where
    below : digit_of b < 16
    below = ltb-true (digit_of b) 16 e

    none : 16 ≡ digit_of b → digit n ≡ b
    none v = absurd (omega (arith, below, v))

    high : (t : Bool) → leb b 0x46 ≡ t → 0x41 ≤ b → digit n ≡ b
    high true k h =
        let small : b ≤ 0x46 = leb-true b 0x46 k in
        let value : b - 0x41 + 10 ≡ digit_of b = digit_a_f b h small in
        sym (digit_letter n (omega (arith, value, is))) ∙ omega (arith, value, is)
    high false k h = none (digit_high b (leb-false b 0x46 k))

    letter : (t : Bool) → ltb b 0x41 ≡ t → 0x39 < b → digit n ≡ b
    letter true k h = none (digit_between b h (ltb-true b 0x41 k))
    letter false k h = high (leb b 0x46) refl (ltb-false b 0x41 k)

    decimal : (t : Bool) → leb b 0x39 ≡ t → 0x30 ≤ b → digit n ≡ b
    decimal true k h =
        let small : b ≤ 0x39 = leb-true b 0x39 k in
        let value : b - 0x30 ≡ digit_of b = digit_0_9 b h small in
        sym (digit_decimal n (omega (arith, value, is))) ∙ omega (arith, value, is)
    decimal false k h = letter (ltb b 0x41) refl (leb-false b 0x39 k)

    low : (t : Bool) → ltb b 0x30 ≡ t → digit n ≡ b
    low true k = none (digit_low b (ltb-true b 0x30 k))
    low false k = decimal (leb b 0x39) refl (ltb-false b 0x30 k)

-- ---- rows

-- a byte's pair of digits
pair_of_byte : (b : ℕ) → b < 256 → pair_of (digit (b / 16)) (digit b) ≡ b
unfolding pair_of
pair_of_byte b h = rw (value_of_digit (b / 16), value_of_digit b) (omega arith)

digits_of_pair : (high low : ℕ) → is_digit high ≡ true → is_digit low ≡ true → hex_digits 2 (pair_of high low) ≡ high ∷ low ∷ []
unfolding hex_digits pair_of
digits_of_pair high low h l =
    let b = pair_of high low in
    let above : digit (b / 16) ≡ high = digit_of_value high (b / 16) h (omega (arith, ltb-true (digit_of high) 16 h)) in
    let below : digit b ≡ low = digit_of_value low b l (omega (arith, ltb-true (digit_of low) 16 l)) in
    rw (above, below)

-- the row for bytes is a row
pub row_of_bytes : (bytes : List ℕ) → is_row (row_text bytes) ≡ true
unfolding row_text hex_digits is_row is_pair
row_of_bytes [] = refl
row_of_bytes (b ∷ bs) =
    let high : ltb (digit_of (digit (b / 16))) 16 ≡ true = rw value_of_digit (lt-ltb (b / 16 % 16) 16 (omega arith)) in
    let low : ltb (digit_of (digit b)) 16 ≡ true = rw value_of_digit (lt-ltb (b % 16) 16 (omega arith)) in
    rw (high, low, row_of_bytes bs)

-- and stands for them
pub bytes_of_row : (bytes : List ℕ) → Bytes bytes → row_bytes (row_text bytes) ≡ bytes
unfolding row_text hex_digits row_bytes
bytes_of_row [] h = refl
bytes_of_row (b ∷ bs) h = rw (pair_of_byte b (h 0), bytes_of_row bs (λ i. h (suc i)))

-- a row is the row for the bytes that it stands for
pub row_of_its_bytes : (row : List ℕ) → is_row row ≡ true → row_text (row_bytes row) ≡ row
unfolding row_text row_bytes is_row is_pair
row_of_its_bytes [] e = refl
row_of_its_bytes (a ∷ []) e = let never : ◌≡◌ {A = ℕ} 0 1 = cc in absurd (omega arith)
row_of_its_bytes (a ∷ b ∷ []) e = let never : ◌≡◌ {A = ℕ} 0 1 = cc in absurd (omega arith)
row_of_its_bytes (a ∷ b ∷ c ∷ row) e =
    let both = (and-eq-true_iff (is_pair a b c) (is_row row)).0 e in
    let three = (and-eq-true_iff (eqb a 0x20) (is_digit b && is_digit c)).0 both.0 in
    let two = (and-eq-true_iff (is_digit b) (is_digit c)).0 three.1 in
    rw (digits_of_pair b c two.0 two.1, row_of_its_bytes row both.1, eqb-true a 0x20 three.0)
