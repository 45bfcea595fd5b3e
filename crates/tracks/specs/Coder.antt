-- 01, Pulse tracks and Numbers of refused calls: what the coder answers and leaves.
-- "Coder and decoder are called by the rack board's C firmware.": crate board's calls for C have this promise and that of Decoder.antt.
use Rattle.std.specs.Prelude.{ℕ, Bool, cond, ◌&&◌, List, ◌≡◌, leb, ltb, ℤ, pos, length}
use Rattle.lent.specs.Lent.{over, refused}
use Rattle.frames.specs.Frame.{longest}
use Rattle.tracks.specs.Track.{track_of, track_length}

-- 7: "to the coder: a frame over 64 bytes, or a coding number other than 0 (1 of 4) and 1 (1 of 256)"
unfoldable pub is_codable : List ℕ → ℕ → Bool
is_codable frame coding = leb (length frame) longest && ltb coding 2

-- 8: "room short: the track's length, 64 for decoding"
unfoldable pub has_room : List ℕ → ℕ → ℕ → Bool
has_room frame coding room = leb (track_length coding (length frame)) room

-- the track's length, or minus the number. "coder 7, 8; decoder 8, 9. All change nothing."
unfoldable pub code_answer : List ℕ → ℕ → ℕ → ℤ
code_answer frame coding room =
    cond (is_codable frame coding)
    (cond (has_room frame coding room) (pos (track_length coding (length frame))) (refused 8))
    (refused 7)

-- the track, and the bytes past it as found
unfoldable pub code_leaves : List ℕ → ℕ → List ℕ → List ℕ
code_leaves frame coding found =
    cond (is_codable frame coding && has_room frame coding (length found)) (over (track_of coding frame) found) found

-- what `code` promises: its answer r, and the track buffer that it leaves
pub record Codes (frame : List ℕ) (coding : ℕ) (found : List ℕ) (r : ℤ) (left : List ℕ) : Type 0 where
  pub answer : r ≡ code_answer frame coding (length found)
  pub leaves : left ≡ code_leaves frame coding found
