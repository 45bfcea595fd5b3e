-- Laws of digits: their values and bytes range by range, a form byte by byte, and the number that digits stand for.
-- Assumes nothing.
use mathlib.Core.Path.{◌≡◌, refl, sym, ap}
use mathlib.Core.Bool.{Bool, true, false, cond, ◌&&◌}
use mathlib.Core.List.{List, [], ◌∷◌}
use Prim.Native.Nat.{ℕ, zero, suc, ◌+◌, ◌-◌, ◌*◌, ◌/◌, ◌%◌, ◌^◌, ◌≤◌, ◌<◌}
use native.Mathlib.Nat.{pow-succ'}
use native.Mathlib.Numerals.{add-one}
use native.Mathlib.Omega.{arith}
use native.Mathlib.Decide.{dec_lt}
use borrow.Author.Tests.{lt-ltb, le-ltb, le-leb, lt-leb, eq-eqb, ne_eqb}
use Rattle.std.specs.Prelude.{Some, None, is_some, unwrap_or}
use Rattle.std.proofs.lemmas.Bool.Decides.{nat_tests}
use Rattle.std.specs.List.{list_all, zip}
use lib.Dec.{eqb, ltb}
use lib.ListN.{length, get_or, get_or-eq_default, length-append}
use Rattle.digits.specs.Digits.{digit_of, digit_value, is_digit, fits, has_form, digits_at, number_at, digit, hex_digits}

-- ---- a digit's value, and its byte

pub digit_low : (b : ℕ) → b < 0x30 → 16 ≡ digit_of b
unfolding digit_of
digit_low b h = rw (lt-leb 0x30 b h, lt-leb 0x41 b (omega arith))

pub digit_0_9 : (b : ℕ) → 0x30 ≤ b → b ≤ 0x39 → b - 0x30 ≡ digit_of b
unfolding digit_of
digit_0_9 b h k = rw (le-leb 0x30 b h, le-leb b 0x39 k)

pub digit_between : (b : ℕ) → 0x39 < b → b < 0x41 → 16 ≡ digit_of b
unfolding digit_of
digit_between b h k = rw (le-leb 0x30 b (omega arith), lt-leb b 0x39 h, lt-leb 0x41 b k)

pub digit_a_f : (b : ℕ) → 0x41 ≤ b → b ≤ 0x46 → b - 0x41 + 10 ≡ digit_of b
unfolding digit_of
digit_a_f b h k = rw (le-leb 0x30 b (omega arith), lt-leb b 0x39 (omega arith), le-leb 0x41 b h, le-leb b 0x46 k) (omega arith)

pub digit_high : (b : ℕ) → 0x46 < b → 16 ≡ digit_of b
unfolding digit_of
digit_high b h = rw (le-leb 0x30 b (omega arith), lt-leb b 0x39 (omega arith), le-leb 0x41 b (omega arith), lt-leb b 0x46 h)

-- a byte's digit, as an option and as a number
digit_most : (b : ℕ) → digit_of b ≤ 16
unfolding digit_of
digit_most b = grind (arith, nat_tests)

pub value_some : (b : ℕ) → is_some (digit_value b) ≡ is_digit b
unfolding digit_value
value_some b = go (ltb (digit_of b) 16)
  where
    go : (t : Bool) → is_some (cond t (Some (digit_of b)) None) ≡ t
    go true = refl
    go false = refl

pub value_or_zero : (b : ℕ) → unwrap_or (digit_value b) 0 ≡ digit_of b % 16
unfolding digit_value
value_or_zero b = go (dec_lt (digit_of b) 16)
  where
    go : Dec (digit_of b < 16) → unwrap_or (cond (ltb (digit_of b) 16) (Some (digit_of b)) None) 0 ≡ digit_of b % 16
    go (yes small) = rw (lt-ltb (digit_of b) 16 small) (omega arith)
    go (no none) = rw (le-ltb (digit_of b) 16 (omega arith)) (omega (arith, digit_most b))

pub value_is : (b d : ℕ) → digit_value b ≡ Some d → (d ≡ digit_of b) × (d < 16)
unfolding digit_value
value_is b d = go (dec_lt (digit_of b) 16)
  where
    go : Dec (digit_of b < 16) → cond (ltb (digit_of b) 16) (Some (digit_of b)) None ≡ Some d → (d ≡ digit_of b) × (d < 16)
    go (yes small) e =
        let same : Some (digit_of b) ≡ Some d = rw (lt-ltb (digit_of b) 16 small) at e in
        let is : digit_of b ≡ d = cc in
        (sym is, omega arith)
    go (no large) e =
        let never : None ≡ Some d = rw (le-ltb (digit_of b) 16 (omega arith)) at e in
        cc

pub value_none : (b : ℕ) → digit_value b ≡ None → 16 ≤ digit_of b
unfolding digit_value
value_none b = go (dec_lt (digit_of b) 16)
  where
    go : Dec (digit_of b < 16) → cond (ltb (digit_of b) 16) (Some (digit_of b)) None ≡ None → 16 ≤ digit_of b
    go (yes small) e =
        let never : Some (digit_of b) ≡ None = rw (lt-ltb (digit_of b) 16 small) at e in
        cc
    go (no large) e = omega arith

-- past the end there is none
pub value_past : (text : List ℕ) (n : ℕ) → length text ≤ n → 0 ≡ digit_of (get_or text n 0) % 16
unfolding digit_of
value_past text n h = rw (get_or-eq_default text 0 {n = n} h)

pub digit_decimal : (n : ℕ) → n % 16 < 10 → 0x30 + n % 16 ≡ digit n
unfolding digit
digit_decimal n h = rw (lt-ltb (n % 16) 10 h)

pub digit_letter : (n : ℕ) → 10 ≤ n % 16 → 0x41 + (n % 16 - 10) ≡ digit n
unfolding digit
digit_letter n h = rw (le-ltb (n % 16) 10 h) (omega arith)

pub length_hex_digits : (n u : ℕ) → length (hex_digits n u) ≡ n
unfolding hex_digits
length_hex_digits zero u = refl
length_hex_digits (suc n) u = rw (length-append, length_hex_digits n (u / 16)) (omega arith)

-- ---- a form

pub fits_digit : (b f : ℕ) → f ≡ 0x58 → is_digit b ≡ fits b f
unfolding fits
fits_digit b f h = rw (eq-eqb f 0x58 h)

pub fits_itself : (b f : ℕ) → (f ≡ 0x58 → ⊥) → eqb b f ≡ fits b f
unfolding fits
fits_itself b f h = rw (ne_eqb f 0x58 h)

-- texts of another length have another form
pub form_length : (text form : List ℕ) → (length text ≡ length form → ⊥) → false ≡ has_form text form
unfolding has_form
form_length [] [] h = absurd (h refl)
form_length [] (f ∷ fs) h = refl
form_length (b ∷ bs) [] h = refl
form_length (b ∷ bs) (f ∷ fs) h = rw (← (form_length bs fs (λ e. h (ap suc e)))) (sym (and_false (fits b f)))
  where
    and_false : (t : Bool) → (t && false) ≡ false
    and_false true = refl
    and_false false = refl

-- byte for byte
pub form_pairs : (text form : List ℕ) → length text ≡ length form → list_all (λ p. fits p.0 p.1) (zip text form) ≡ has_form text form
unfolding has_form
form_pairs [] [] h = refl
form_pairs [] (f ∷ fs) h = absurd (omega arith)
form_pairs (b ∷ bs) [] h = absurd (omega arith)
form_pairs (b ∷ bs) (f ∷ fs) h = ap (λ t. fits b f && t) (form_pairs bs fs (omega arith))

-- ---- the number

-- one digit more, shifted in
pub number_suc : (text : List ℕ) (at i n d : ℕ) → n ≡ number_at text at i → d ≡ digit_of (get_or text (at + i) 0) % 16
    → (n * 2 ^ 4) % 2 ^ 64 + d ≡ number_at text at (i + 1)
unfolding number_at digits_at
number_suc text at i n d h is = rw (h, is, add-one i) (omega arith)

-- so many digits, so large a number
digits_below : (text : List ℕ) (at n : ℕ) → digits_at text at n < 16 ^ n
unfolding digits_at
digits_below text at zero = omega arith
digits_below text at (suc n) = rw (pow-succ' 16 n) (omega (arith, digits_below text at n))

pub number_below : (text : List ℕ) (at n : ℕ) → number_at text at n < 16 ^ n
unfolding number_at
number_below text at n = omega (arith, digits_below text at n)
