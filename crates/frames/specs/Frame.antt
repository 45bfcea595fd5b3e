-- 01, The card, step 1: "Under 4 bytes, over 64, or wrong check: silence."; Check and byte order: the check "stands last".
use Rattle.std.specs.Prelude.{ℕ, ◌+◌, ◌-◌, ◌*◌, ◌≤◌, Bool, cond, ◌&&◌, List, ◌≡◌, leb, ℤ, pos, length, take}
use Rattle.lent.specs.Lent.{over, refused}
use Rattle.crc.specs.Check.{sealed, is_sealed}

-- "Under 4 bytes"
unfoldable pub shortest : ℕ
shortest = 4

-- "over 64"; Pulse tracks: "A frame has 0 to 64 bytes."
unfoldable pub longest : ℕ
longest = 64

-- 02, W3: "Answers have 3 to 8,451 bytes."
-- the shortest answer: "It covers all bytes from the flags on and stands last", so that it has flags and check at least
unfoldable pub shortest_answer : ℕ
shortest_answer = 3

-- the longest answer: "3 + blocks × (size + 1)", of "1 to 256 blocks of 1 to 32 bytes"
unfoldable pub longest_answer : ℕ
longest_answer = 3 + 256 * (32 + 1)

unfoldable pub is_sound : List ℕ → Bool
is_sound frame = leb shortest (length frame) && (leb (length frame) longest && is_sealed frame)

-- "It covers all bytes from the flags on and stands last": a sound frame in these words
pub record Sound (frame : List ℕ) : Type 0 where
  pub least : shortest ≤ length frame
  pub most : length frame ≤ longest
  pub seal : frame ≡ sealed (take (length frame - 2) frame)

-- appending the check to the first bytes of a buffer: the length with it, or number 8 (room short)
unfoldable pub seal_answer : List ℕ → ℕ → ℤ
seal_answer buffer n = cond (leb (n + 2) (length buffer)) (pos (n + 2)) (refused 8)

unfoldable pub seal_leaves : List ℕ → ℕ → List ℕ
seal_leaves buffer n = cond (leb (n + 2) (length buffer)) (over (sealed (take n buffer)) buffer) buffer

-- what `seal` promises: its answer r, and the buffer that it leaves
pub record Seals (buffer : List ℕ) (n : ℕ) (r : ℤ) (left : List ℕ) : Type 0 where
  pub answer : r ≡ seal_answer buffer n
  pub leaves : left ≡ seal_leaves buffer n
