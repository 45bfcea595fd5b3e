-- 01's examples of pulse tracks: each result by computation and by the ways out, and it is the only one. Assumes nothing.
use mathlib.Core.Path.{◌≡◌, refl}
use mathlib.Core.List.{[], ◌∷◌, ◌++◌}
use native.Mathlib.Omega.{arith}
use lib.ListN.{set, replicate}
use Rattle.lent.proofs.Over.{over_none}
use Rattle.frames.specs.Frame.{longest}
use Rattle.tracks.specs.Track.{start, pattern, quad, blank, long, coded, unit, pulses, track_of}
use Rattle.tracks.specs.Steps.{pair_of, joined, zeros, lone, byte_of, are_bytes, bytes_of, count_of, is_track, is_slot_mark}
use Rattle.tracks.specs.Examples.{Tracks}
use Rattle.tracks.proofs.CodeWays.{codes_too_long, codes_served}
use Rattle.tracks.proofs.DecodeWays.{decodes_frame, decodes_no_track}
use Rattle.tracks.proofs.RoundTrip.{frame_of}
use Rattle.tracks.proofs.Unique.{code_unique, decode_unique}

e1_track : track_of 0 (0xe1 ∷ []) ≡ 0x84 ∷ 0x10 ∷ 0x40 ∷ 0x04 ∷ 0x01 ∷ 0x20 ∷ []
unfolding start pattern quad coded pulses track_of
e1_track = refl

e1_long_track : track_of 1 (0xe1 ∷ []) ≡ 0x81 ∷ set (replicate 64 0x00) 56 0x10 ++ 0x20 ∷ []
unfolding start pattern blank long coded pulses track_of
e1_long_track = refl

pub tracks : Tracks
unfolding start pattern unit pair_of joined zeros lone byte_of are_bytes bytes_of count_of is_track is_slot_mark frame_of longest
tracks =
    record {
      e1_of_4 = λ found r left room p. rw e1_track at (code_unique p (codes_served (0xe1 ∷ []) 0 found (omega arith) (omega arith) room));
      e1_of_256 = λ found r left room p. rw e1_long_track at (code_unique p (codes_served (0xe1 ∷ []) 1 found (omega arith) (omega arith) room));
      empty = λ found r left room p. rw over_none at (decode_unique p (decodes_frame (0x84 ∷ 0x20 ∷ []) found room 0 (omega arith) refl));
      no_track = λ found r left room p. decode_unique p (decodes_no_track (0x84 ∷ 0x40 ∷ 0x20 ∷ []) found room refl refl refl);
      longest_of_4 = λ frame found r left n room p. rw n at (code_unique p (codes_served frame 0 found (omega arith) (omega arith) (rw n room)));
      longest_of_256 = λ frame found r left n room p. rw n at (code_unique p (codes_served frame 1 found (omega arith) (omega arith) (rw n room)));
      too_long = λ frame found coding r left n p. code_unique p (codes_too_long frame coding found (omega arith));
    }
