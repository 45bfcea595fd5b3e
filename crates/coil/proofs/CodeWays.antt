-- The ways out of the coder, in 02's order: 7 for an answer too short, 7 for one too long, 8, served. By the tests of its definition. Assumes nothing.
use mathlib.Core.Path.{◌≡◌}
use mathlib.Core.Bool.{true}
use Prim.Native.Nat.{ℕ, ◌≤◌, ◌<◌}
use mathlib.Core.List.{List}
use borrow.Author.Tests.{le-leb, lt-leb}
use lib.IntN.{pos}
use lib.ListN.{length}
use Rattle.lent.specs.Lent.{over, refused}
use Rattle.frames.specs.Frame.{shortest_answer, longest_answer}
use Rattle.coil.specs.Track.{answer_track, answer_track_length}
use Rattle.coil.specs.Coder.{is_answer_length, has_room, code_answer, code_leaves, CodesAnswer}

module _ (answer found : List ℕ) where
  pub codes_too_short : length answer < shortest_answer → CodesAnswer answer found (refused 7) found
  unfolding is_answer_length code_answer code_leaves
  codes_too_short h = record { tells = rw (lt-leb shortest_answer (length answer) h); leaves = rw (lt-leb shortest_answer (length answer) h) }

  module _ (least : shortest_answer ≤ length answer) where
    pub codes_too_long : longest_answer < length answer → CodesAnswer answer found (refused 7) found
    unfolding is_answer_length code_answer code_leaves
    codes_too_long h =
        record {
          tells = rw (le-leb shortest_answer (length answer) least, lt-leb (length answer) longest_answer h);
          leaves = rw (le-leb shortest_answer (length answer) least, lt-leb (length answer) longest_answer h);
        }

    module _ (most : length answer ≤ longest_answer) where
      length_fits : is_answer_length (length answer) ≡ true
      unfolding is_answer_length
      length_fits = rw (le-leb shortest_answer (length answer) least, le-leb (length answer) longest_answer most)

      pub codes_no_room : length found < answer_track_length (length answer) → CodesAnswer answer found (refused 8) found
      unfolding has_room code_answer code_leaves
      codes_no_room h =
          record {
            tells = rw (length_fits, lt-leb (answer_track_length (length answer)) (length found) h);
            leaves = rw (length_fits, lt-leb (answer_track_length (length answer)) (length found) h);
          }

      pub codes_served : answer_track_length (length answer) ≤ length found
          → CodesAnswer answer found (pos (answer_track_length (length answer))) (over (answer_track answer) found)
      unfolding has_room code_answer code_leaves
      codes_served h =
          record {
            tells = rw (length_fits, le-leb (answer_track_length (length answer)) (length found) h);
            leaves = rw (length_fits, le-leb (answer_track_length (length answer)) (length found) h);
          }
