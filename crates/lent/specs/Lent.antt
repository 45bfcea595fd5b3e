-- What a call says of a buffer that it is lent, and how it refuses.
use Rattle.std.specs.Prelude.{ℕ, ◌+◌, List, ◌++◌, ℤ, pos, neg_ℤ, length, take, drop}

-- 01, The card: "Every call of any part leaves the bytes past its result as found":
-- the bytes s at the start of a buffer, and past them the buffer e as it was found
unfoldable pub over : List ℕ → List ℕ → List ℕ
over s e = s ++ drop (length s) e

-- the bytes s at a place of a buffer, and before and past them the buffer e as it was found
unfoldable pub placed : ℕ → List ℕ → List ℕ → List ℕ
placed at s e = take at e ++ s ++ drop (at + length s) e

-- 01, Numbers of refused calls: where one number tells a length or a refusal, the refusal is minus its number of the table
abbrev pub refused : ℕ → ℤ
refused number = neg_ℤ (pos number)
