-- Tracks of different frames or codings differ, and the slot mark is none of them: a track's first byte tells the coding, and its frame is read
-- back from it. Assumes nothing.
use mathlib.Core.Path.{◌≡◌, refl, sym, ap, ◌∙◌}
use mathlib.Core.Bool.{cond}
use Prim.Native.Nat.{ℕ, zero, suc, ◌<◌}
use native.Mathlib.Omega.{arith}
use mathlib.Core.List.{List}
use lib.Dec.{eqb}
use lib.ListN.{length, get_or}
use Rattle.tracks.specs.Track.{start, track_of, slot_mark}
use Rattle.tracks.specs.Decoder.{IsTrackOf}
use Rattle.tracks.proofs.Units.{length_track}
use Rattle.tracks.proofs.RoundTrip.{frame_of, frame_of_track}

pub mark_no_track : (coding : ℕ) (frame : List ℕ) → track_of coding frame ≡ slot_mark → ⊥
mark_no_track coding frame e =
    let n : length (track_of coding frame) ≡ 1 = ap length e in
    omega (arith, length_track coding frame)

-- the coding that a start byte tells
abbrev coding_of : ℕ → ℕ
coding_of byte = cond (eqb byte (start 0)) 0 1

coding_of_start : (coding : ℕ) → coding < 2 → coding_of (start coding) ≡ coding
unfolding start
coding_of_start zero h = refl
coding_of_start (suc zero) h = refl
coding_of_start (suc (suc coding)) h = absurd (omega arith)

coding_of_track : {coding : ℕ} {frame t : List ℕ} → IsTrackOf coding frame t → coding_of (get_or t 0 0) ≡ coding
unfolding track_of
coding_of_track {coding} p = rw p.track (coding_of_start coding p.known)

module _ {t : List ℕ} {c d : ℕ} {f g : List ℕ} (p : IsTrackOf c f t) (q : IsTrackOf d g t) where
  pub same_coding : c ≡ d
  same_coding = sym (coding_of_track p) ∙ coding_of_track q

  pub same_frame : f ≡ g
  same_frame =
      sym (frame_of_track c f p.bytes)
      ∙ ap (frame_of c) (sym p.track ∙ q.track)
      ∙ rw same_coding (frame_of_track d g q.bytes)
