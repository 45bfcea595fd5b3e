-- 01, Pulse tracks and Numbers of refused calls: what the decoder answers and leaves.
use Rattle.std.specs.Prelude.{ℕ, ◌+◌, ◌*◌, ◌≤◌, ◌<◌, List, ◌≡◌, ℤ, pos, length}
use Rattle.lent.specs.Bytes.{Bytes}
use Rattle.lent.specs.Lent.{over, refused}
use Rattle.frames.specs.Frame.{longest}
use Rattle.tracks.specs.Track.{track_of, slot_mark}

-- "A frame has 0 to 64 bytes.": the bytes t are the track of such a frame in one of the two codings
pub record IsTrackOf (coding : ℕ) (frame t : List ℕ) : Type 0 where
  pub known : coding < 2
  pub bytes : Bytes frame
  pub short : length frame ≤ longest
  pub track : t ≡ track_of coding frame

-- 01, Form by location: "a number back for length or refusal". The number tells the kind, which is a frame's coding or 2 for the slot mark, and
-- the frame's length
abbrev pub told : ℕ → ℕ → ℤ
told kind n = pos (65536 * kind + n)

-- What `decode` promises: its answer r, and the frame buffer that it leaves.
-- "The decoder returns the frame with its coding, or slot mark, and refuses everything else."
pub data Decodes (t found : List ℕ) (r : ℤ) (left : List ℕ) : Type 0 where
  -- 8: "room short: the track's length, 64 for decoding". It comes first: "decoder 8, 9. All change nothing."
  no_room : length found < longest → r ≡ refused 8 → left ≡ found → Decodes t found r left
  -- the frame, and the bytes past it as found
  a_frame : longest ≤ length found → (coding : ℕ) (frame : List ℕ) → IsTrackOf coding frame t → r ≡ told coding (length frame) → left ≡ over frame found
      → Decodes t found r left
  a_mark : longest ≤ length found → t ≡ slot_mark → r ≡ told 2 0 → left ≡ found → Decodes t found r left
  -- 9: "not a track"
  no_track : longest ≤ length found → ((coding : ℕ) (frame : List ℕ) → IsTrackOf coding frame t → ⊥) → (t ≡ slot_mark → ⊥) → r ≡ refused 9 → left ≡ found
      → Decodes t found r left
