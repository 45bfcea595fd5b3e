-- 01, Bench: "Standard input has one UID a line, 16 upper-case hex digits".
use Rattle.std.specs.Prelude.{ℕ, suc, ◌+◌, ◌*◌, ◌/◌, ◌^◌, Bool, true, cond, ◌&&◌, List, [], ◌∷◌, ◌++◌, leb, eqb, length}
use Rattle.digits.specs.Digits.{digit_of, is_digit}

-- "A line ends with the byte 0A, which the last may lack.": the lines of an input, after the bytes of a line that has begun
unfoldable pub lines_from : List ℕ → List ℕ → List (List ℕ)
lines_from line [] = cond (eqb (length line) 0) [] (line ∷ [])
lines_from line (b ∷ bs) = cond (eqb b 0x0a) (line ∷ lines_from [] bs) (lines_from (line ++ b ∷ []) bs)

unfoldable pub lines : List ℕ → List (List ℕ)
lines input = lines_from [] input

unfoldable pub all_digits : List ℕ → Bool
all_digits [] = true
all_digits (b ∷ bs) = is_digit b && all_digits bs

-- the number that digits stand for, the first the highest, after a number that has begun
unfoldable pub number_from : ℕ → List ℕ → ℕ
number_from n [] = n
number_from n (b ∷ bs) = number_from (16 * n + digit_of b) bs

unfoldable pub uid_of : List ℕ → ℕ
uid_of line = number_from 0 line

-- 02, W6: "The bench calls any other UID a bad line.": "All UIDs begin with E0"
unfoldable pub begins_e0 : ℕ → Bool
begins_e0 uid = eqb (uid / 2 ^ 56) 0xe0

-- "16 upper-case hex digits", and the above
unfoldable pub is_uid : List ℕ → Bool
is_uid line = eqb (length line) 16 && (all_digits line && begins_e0 (uid_of line))

-- "The first wrong line, or line 101": its number, or 0 where there is none. n is the number of the first line here
unfoldable pub bad_from : ℕ → List (List ℕ) → ℕ
bad_from n [] = 0
bad_from n (l ∷ ls) = cond (leb n 100 && is_uid l) (bad_from (suc n) ls) n

unfoldable pub bad_line : List ℕ → ℕ
bad_line input = bad_from 1 (lines input)

unfoldable pub uids_of : List (List ℕ) → List ℕ
uids_of [] = []
uids_of (l ∷ ls) = uid_of l ∷ uids_of ls

unfoldable pub uids : List ℕ → List ℕ
uids input = uids_of (lines input)
