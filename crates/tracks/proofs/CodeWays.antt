-- The ways out of the coder, in 01's order: 7 for the frame, 7 for the coding, 8, served. By the tests of its definition.
-- Assumes nothing.
use Prim.Native.Nat.{ℕ, ◌≤◌, ◌<◌}
use mathlib.Core.List.{List}
use borrow.Author.Tests.{le-leb, lt-leb, lt-ltb, le-ltb}
use lib.IntN.{pos}
use lib.ListN.{length}
use Rattle.lent.specs.Lent.{over, refused}
use Rattle.frames.specs.Frame.{longest}
use Rattle.tracks.specs.Track.{track_of, track_length}
use Rattle.tracks.specs.Coder.{is_codable, has_room, code_answer, code_leaves, Codes}

module _ (frame : List ℕ) (coding : ℕ) (found : List ℕ) where
  pub codes_too_long : longest < length frame → Codes frame coding found (refused 7) found
  unfolding is_codable code_answer code_leaves
  codes_too_long h = record { answer = rw (lt-leb (length frame) longest h); leaves = rw (lt-leb (length frame) longest h) }

  module _ (short : length frame ≤ longest) where
    pub codes_no_coding : 2 ≤ coding → Codes frame coding found (refused 7) found
    unfolding is_codable code_answer code_leaves
    codes_no_coding h =
        record {
          answer = rw (le-leb (length frame) longest short, le-ltb coding 2 h);
          leaves = rw (le-leb (length frame) longest short, le-ltb coding 2 h);
        }

    module _ (known : coding < 2) where
      pub codes_no_room : length found < track_length coding (length frame) → Codes frame coding found (refused 8) found
      unfolding is_codable has_room code_answer code_leaves
      codes_no_room h =
          record {
            answer = rw (le-leb (length frame) longest short, lt-ltb coding 2 known, lt-leb (track_length coding (length frame)) (length found) h);
            leaves = rw (le-leb (length frame) longest short, lt-ltb coding 2 known, lt-leb (track_length coding (length frame)) (length found) h);
          }

      pub codes_served : track_length coding (length frame) ≤ length found
          → Codes frame coding found (pos (track_length coding (length frame))) (over (track_of coding frame) found)
      unfolding is_codable has_room code_answer code_leaves
      codes_served h =
          record {
            answer = rw (le-leb (length frame) longest short, lt-ltb coding 2 known, le-leb (track_length coding (length frame)) (length found) h);
            leaves = rw (le-leb (length frame) longest short, lt-ltb coding 2 known, le-leb (track_length coding (length frame)) (length found) h);
          }
