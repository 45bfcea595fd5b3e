-- Steps of private functions: nothing here has to be held against the rules page.
-- What the functions that put an answer together promise: how many bytes, and that the rest of the buffer is as found.
use Rattle.std.specs.Prelude.{◌≡◌, List, ℕ, ◌+◌, length}
use Rattle.lent.specs.Lent.{over, placed}

-- the bytes at the start of a buffer, and their number r
pub record Puts (bytes buffer : List ℕ) (r : ℕ) (left : List ℕ) : Type 0 where
  pub count : r ≡ length bytes
  pub leaves : left ≡ over bytes buffer

-- the bytes at a place of a buffer, and the place r after them
pub record PutsAt (at : ℕ) (bytes buffer : List ℕ) (r : ℕ) (left : List ℕ) : Type 0 where
  pub next : r ≡ at + length bytes
  pub leaves : left ≡ placed at bytes buffer
