-- Steps of private functions: nothing here has to be held against the rules page.
-- A text is put together piece by piece in a buffer, and cut off at the buffer's end.
use Rattle.std.specs.Prelude.{◌≡◌, ℕ, ◌+◌, ◌-◌, List, length, take}
use Rattle.lent.specs.Lent.{placed}
use Rattle.player.specs.declared.told.Text.{Text}

-- the bytes s at a place of a buffer e, as many as fit
unfoldable pub cut : ℕ → List ℕ → List ℕ → List ℕ
cut at s e = take (length e - at) s

-- these bytes at a place of the buffer, and the place r after them
pub record Adds (at : ℕ) (s e : List ℕ) (r : ℕ) (left : List ℕ) : Type 0 where
  pub next : r ≡ at + length (cut at s e)
  pub leaves : left ≡ placed at (cut at s e) e

-- what the methods that add to a text promise: these bytes after those that it has
abbrev pub Grows : List ℕ → Text → Text → Type 0
Grows s t u = Adds t.at s t.bytes u.at u.bytes
