-- 01, What is built: "Numbers in frames are hexadecimal."; Bench: "upper-case hex digits".
use Rattle.std.specs.Prelude.{ℕ, zero, suc, ◌+◌, ◌-◌, ◌*◌, ◌/◌, ◌%◌, ◌^◌, Bool, true, false, cond, ◌&&◌, List, [], ◌∷◌, ◌++◌, eqb, leb, ltb, get_or, Option, Some, None}

-- the value of a digit 0 to 9 or A to F, or 16 for any other byte
unfoldable pub digit_of : ℕ → ℕ
digit_of b = cond (leb 0x30 b && leb b 0x39) (b - 0x30) (cond (leb 0x41 b && leb b 0x46) (b - 0x37) 16)

-- the same for a call that says by an option whether there is one
unfoldable pub digit_value : ℕ → Option ℕ
digit_value b = cond (ltb (digit_of b) 16) (Some (digit_of b)) None

abbrev pub is_digit : ℕ → Bool
is_digit b = ltb (digit_of b) 16

-- a form is a text in which each X (0x58) stands for a digit, and any other byte for itself
unfoldable pub fits : ℕ → ℕ → Bool
fits b f = cond (eqb f 0x58) (is_digit b) (eqb b f)

unfoldable pub has_form : List ℕ → List ℕ → Bool
has_form [] [] = true
has_form [] (f ∷ fs) = false
has_form (b ∷ bs) [] = false
has_form (b ∷ bs) (f ∷ fs) = fits b f && has_form bs fs

-- the number that n digits at a place of a text stand for, the first the highest. A byte that is no digit counts 0, and so does a place past the end
unfoldable pub digits_at : List ℕ → ℕ → ℕ → ℕ
digits_at text at zero = 0
digits_at text at (suc n) = 16 * digits_at text at n + digit_of (get_or text (at + n) 0) % 16

-- its low 64 bits: all of it up to sixteen digits
unfoldable pub number_at : List ℕ → ℕ → ℕ → ℕ
number_at text at n = digits_at text at n % 2 ^ 64

-- the byte of a number's last digit, upper-case
unfoldable pub digit : ℕ → ℕ
digit n = cond (ltb (n % 16) 10) (0x30 + n % 16) (0x37 + n % 16)

-- the low n digits of a number, the highest first
unfoldable pub hex_digits : ℕ → ℕ → List ℕ
hex_digits zero u = []
hex_digits (suc n) u = hex_digits n (u / 16) ++ digit u ∷ []
