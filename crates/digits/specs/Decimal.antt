-- Numbers in decimal, as the bench prints them (01, Bench).
use Rattle.std.specs.Prelude.{ℕ, zero, suc, ◌+◌, ◌*◌, ◌/◌, ◌%◌, Bool, true, cond, ◌&&◌, List, [], ◌∷◌, ◌++◌, ltb}
use Rattle.digits.specs.Digits.{digit_of, digit}

-- the digits of a number, the highest first; the count bounds how many, and a count that is no less than the number is enough
unfoldable pub decimal_of : ℕ → ℕ → List ℕ
decimal_of zero n = digit n ∷ []
decimal_of (suc count) n = cond (ltb n 10) (digit n ∷ []) (decimal_of count (n / 10) ++ digit (n % 10) ∷ [])

-- a number in decimal, without zeros in front
unfoldable pub decimal : ℕ → List ℕ
decimal n = decimal_of n n

-- ---- reading them, for theorems

-- the digits 0 to 9 alone
unfoldable pub is_decimal : List ℕ → Bool
is_decimal [] = true
is_decimal (b ∷ bs) = ltb (digit_of b) 10 && is_decimal bs

-- the number that digits stand for, the first the highest, after those that stand for n
unfoldable pub decimal_after : ℕ → List ℕ → ℕ
decimal_after n [] = n
decimal_after n (b ∷ bs) = decimal_after (10 * n + digit_of b) bs

unfoldable pub decimal_value : List ℕ → ℕ
decimal_value bytes = decimal_after 0 bytes
