-- Bytes put at a place of a text. The number is that of 01, Numbers of refused calls: 8, "room short".
use Rattle.std.specs.Prelude.{ℕ, ◌+◌, cond, List, ◌≡◌, leb, ℤ, pos, length}
use Rattle.lent.specs.Lent.{placed, refused}

-- the place after them, or number 8 (room short)
unfoldable pub put_answer : List ℕ → List ℕ → ℕ → ℤ
put_answer bytes text at = cond (leb (at + length bytes) (length text)) (pos (at + length bytes)) (refused 8)

unfoldable pub put_leaves : List ℕ → List ℕ → ℕ → List ℕ
put_leaves bytes text at = cond (leb (at + length bytes) (length text)) (placed at bytes text) text

-- what each call promises that puts bytes at a place of a text: its answer r, and the text that it leaves
pub record PutsText (bytes text : List ℕ) (at : ℕ) (r : ℤ) (left : List ℕ) : Type 0 where
  pub answer : r ≡ put_answer bytes text at
  pub leaves : left ≡ put_leaves bytes text at
