-- 02, W3: the number that the coder of answers gives back, and the buffer that it leaves.
use Rattle.std.specs.Prelude.{ℕ, Bool, cond, ◌&&◌, List, ◌≡◌, leb, ℤ, pos, length}
use Rattle.lent.specs.Lent.{over, refused}
use Rattle.frames.specs.Frame.{shortest_answer, longest_answer}
use Rattle.coil.specs.Track.{answer_track, answer_track_length}

-- "Answers have 3 to 8,451 bytes."; "7 also for other lengths"
unfoldable pub is_answer_length : ℕ → Bool
is_answer_length n = leb shortest_answer n && leb n longest_answer

-- "8 asks the track's length"
unfoldable pub has_room : List ℕ → ℕ → Bool
has_room answer room = leb (answer_track_length (length answer)) room

-- the track's length, or minus the number, 7 before 8
unfoldable pub code_answer : List ℕ → ℕ → ℤ
code_answer answer room =
    cond (is_answer_length (length answer)) (cond (has_room answer room) (pos (answer_track_length (length answer))) (refused 8)) (refused 7)

-- the track, and the bytes past it as found
unfoldable pub code_leaves : List ℕ → List ℕ → List ℕ
code_leaves answer found = cond (is_answer_length (length answer) && has_room answer (length found)) (over (answer_track answer) found) found

-- what `code` promises: its number r, and the track buffer that it leaves
pub record CodesAnswer (answer found : List ℕ) (r : ℤ) (left : List ℕ) : Type 0 where
  pub tells : r ≡ code_answer answer (length found)
  pub leaves : left ≡ code_leaves answer found
