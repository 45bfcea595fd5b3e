-- 01, Check and byte order: "A multi-byte field goes least significant byte first."
use Rattle.std.specs.Prelude.{ℕ, zero, suc, ◌+◌, ◌*◌, ◌/◌, ◌%◌, min, cond, List, [], ◌∷◌, ◌≡◌, leb, ℤ, pos, length, take, drop}
use Rattle.lent.specs.Lent.{placed, refused}

-- the number that bytes stand for
unfoldable pub field_of : List ℕ → ℕ
field_of [] = 0
field_of (b ∷ bs) = b + 256 * field_of bs

-- the low bytes of a number, so many of them
unfoldable pub field_bytes : ℕ → ℕ → List ℕ
field_bytes zero value = []
field_bytes (suc count) value = value % 256 ∷ field_bytes count (value / 256)

-- the field of so many bytes, eight at the most, at a place of a frame. Where the frame ends before the field does, the field ends there
unfoldable pub field_at : List ℕ → ℕ → ℕ → ℕ
field_at frame at count = field_of (take (min 8 count) (drop at frame))

-- putting a field: the place after it, or number 8 (room short)
unfoldable pub put_answer : List ℕ → ℕ → ℕ → ℤ
put_answer buffer at count = cond (leb (at + count) (length buffer)) (pos (at + count)) (refused 8)

unfoldable pub put_leaves : List ℕ → ℕ → ℕ → ℕ → List ℕ
put_leaves buffer at count value = cond (leb (at + count) (length buffer)) (placed at (field_bytes count value) buffer) buffer

-- what `put_field` promises: its answer r, and the buffer that it leaves
pub record PutsField (buffer : List ℕ) (at count value : ℕ) (r : ℤ) (left : List ℕ) : Type 0 where
  pub answer : r ≡ put_answer buffer at count
  pub leaves : left ≡ put_leaves buffer at count value
