-- Rows: bytes as text, each as a space and a pair of digits. The numbers are those of 01, Numbers of refused calls: 8, "room short".
use Rattle.std.specs.Prelude.{ℕ, ◌+◌, ◌*◌, ◌/◌, ◌%◌, Bool, true, false, cond, ◌&&◌, List, [], ◌∷◌, ◌++◌, ◌≡◌, leb, eqb, ℤ, pos, length}
use Rattle.lent.specs.Lent.{over, refused}
use Rattle.digits.specs.Digits.{digit_of, is_digit, hex_digits}

-- a space and two digits
unfoldable pub is_pair : ℕ → ℕ → ℕ → Bool
is_pair space high low = eqb space 0x20 && (is_digit high && is_digit low)

-- pairs, each after a space, to the end
unfoldable pub is_row : List ℕ → Bool
is_row [] = true
is_row (space ∷ []) = false
is_row (space ∷ high ∷ []) = false
is_row (space ∷ high ∷ low ∷ row) = is_pair space high low && is_row row

-- the byte that two digits stand for
unfoldable pub pair_of : ℕ → ℕ → ℕ
pair_of high low = 16 * (digit_of high % 16) + digit_of low % 16

-- the bytes that a row stands for
unfoldable pub row_bytes : List ℕ → List ℕ
row_bytes [] = []
row_bytes (space ∷ []) = []
row_bytes (space ∷ high ∷ []) = []
row_bytes (space ∷ high ∷ low ∷ row) = pair_of high low ∷ row_bytes row

-- the row for bytes
unfoldable pub row_text : List ℕ → List ℕ
row_text [] = []
row_text (b ∷ bs) = 0x20 ∷ hex_digits 2 b ++ row_text bs

-- reading a row into a buffer: how many bytes, or number 8 (room short)
unfoldable pub read_answer : List ℕ → List ℕ → ℤ
read_answer text buffer = cond (leb (length text / 3) (length buffer)) (pos (length text / 3)) (refused 8)

unfoldable pub read_leaves : List ℕ → List ℕ → List ℕ
read_leaves text buffer = cond (leb (length text / 3) (length buffer)) (over (row_bytes text) buffer) buffer

-- what `read_row` promises: its answer r, and the buffer that it leaves
pub record ReadsRow (text buffer : List ℕ) (r : ℤ) (left : List ℕ) : Type 0 where
  pub answer : r ≡ read_answer text buffer
  pub leaves : left ≡ read_leaves text buffer
