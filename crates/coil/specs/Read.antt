-- 02, W3: the four things that can be read of a track, each in words of its own: what a track must be for each of them, and nothing else is.
use Rattle.std.specs.Prelude.{ℕ, ◌+◌, ◌*◌, ◌≤◌, ◌<◌, List, ◌≡◌, ℤ, pos, length, get_or}
use Rattle.lent.specs.Bytes.{Bytes}
use Rattle.lent.specs.Lent.{over, refused}
use Rattle.frames.specs.Frame.{shortest_answer, longest_answer}
use Rattle.coil.specs.Track.{start, end, answer_track}
use Rattle.coil.specs.Decoder.{pair_at, an_answer, a_clash, a_loss, no_track, reading}

-- "Answers have 3 to 8,451 bytes."
pub record Codable (answer : List ℕ) : Type 0 where
  pub bytes : Bytes answer
  pub least : shortest_answer ≤ length answer
  pub most : length answer ≤ longest_answer

-- start, end and length are those of an answer of n bytes
pub record Framed (n : ℕ) (t : List ℕ) : Type 0 where
  pub least : shortest_answer ≤ n
  pub most : n ≤ longest_answer
  pub long : length t ≡ 2 + 2 * n
  pub starts : get_or t 0 0 ≡ start
  pub ends : get_or t (1 + 2 * n) 0 ≡ end

-- the pair of a 0 bit or of a 1 bit: 10 or 01
pub data Good : ℕ → Type 0 where
  zero_bit : Good 2
  one_bit : Good 1

-- every pair before bit k is good
abbrev pub GoodBefore : ℕ → List ℕ → Type 0
GoodBefore k t = (i : ℕ) → i < k → Good (pair_at t i)

-- the number r and the buffer left, of a track t in a room of 8,451 or more. A clash is told as 131,072 and the bit, a lost bit as 262,144 and the bit; the
-- last bit of all is 67,607, so no two of these are one number
pub data TrackReads (t found : List ℕ) (r : ℤ) (left : List ℕ) : Type 0 where
  -- to the byte what the coder makes of it
  answer_read : (answer : List ℕ) → Codable answer → t ≡ answer_track answer → r ≡ pos (length answer) → left ≡ over answer found → TrackReads t found r left
  -- "A pair 11 between start and end is a clash": the first pair that is not good
  clash_read : (n k : ℕ) → Framed n t → k < 8 * n → GoodBefore k t → pair_at t k ≡ 3 → r ≡ pos (131072 + k) → left ≡ found → TrackReads t found r left
  -- "00 is lost"
  loss_read : (n k : ℕ) → Framed n t → k < 8 * n → GoodBefore k t → pair_at t k ≡ 0 → r ≡ pos (262144 + k) → left ≡ found → TrackReads t found r left
  -- "12 ..: wrong start, end or length"
  none_read : ((n : ℕ) → Framed n t → ⊥) → r ≡ refused 12 → left ≡ found → TrackReads t found r left

-- and of what is read, the number and the buffer: "the decoder names the first such bit, from 0, and writes nothing"
pub record Tells (t found : List ℕ) (r : ℤ) (left : List ℕ) : Type 0 where
  pub of_answer : (answer : List ℕ) → reading t ≡ an_answer answer → (r ≡ pos (length answer)) × (left ≡ over answer found)
  pub of_clash : (k : ℕ) → reading t ≡ a_clash k → (r ≡ pos (131072 + k)) × (left ≡ found)
  pub of_loss : (k : ℕ) → reading t ≡ a_loss k → (r ≡ pos (262144 + k)) × (left ≡ found)
  pub of_none : reading t ≡ no_track → (r ≡ refused 12) × (left ≡ found)
