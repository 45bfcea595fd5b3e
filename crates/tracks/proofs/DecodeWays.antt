-- The ways out of the decoder, in 01's order: 8, a frame, the slot mark, 9. What the steps read is the track of a frame and nothing else is, by
-- the laws of RoundTrip.antt. Assumes nothing.
use mathlib.Core.Path.{◌≡◌, refl, sym, ap, ◌∙◌}
use mathlib.Core.Bool.{true, false, and-eq-true_iff, false≢true}
use Prim.Native.Nat.{ℕ, zero, suc, ◌≤◌, ◌<◌}
use native.Mathlib.Omega.{arith}
use mathlib.Core.List.{List, [], ◌∷◌}
use borrow.Author.Tests.{eqb-true}
use lib.Dec.{eqb}
use lib.ListN.{length, get_or}
use Rattle.lent.specs.Lent.{over, refused}
use Rattle.frames.specs.Frame.{longest}
use Rattle.tracks.specs.Track.{end, slot_mark}
use Rattle.tracks.specs.Decoder.{IsTrackOf, told, Decodes, no_room, a_frame, a_mark, no_track}
use Rattle.tracks.specs.Steps.{count_of, is_track, is_slot_mark}
use Rattle.tracks.proofs.Parts.{parts_of_track}
use Rattle.tracks.proofs.RoundTrip.{frame_of, track_of_frame, coded_of_track, frame_bytes, length_frame_of}

-- ---- the slot mark by its test

mark_of : (t : List ℕ) → is_slot_mark t ≡ true → t ≡ slot_mark
unfolding is_slot_mark
mark_of t e =
    let both = (and-eq-true_iff (eqb (length t) 1) (eqb (get_or t 0 0) end)).0 e in
    one t (eqb-true (length t) 1 both.0) (eqb-true (get_or t 0 0) end both.1)
  where
    one : (t : List ℕ) → length t ≡ 1 → get_or t 0 0 ≡ end → t ≡ slot_mark
    one [] n b = absurd (omega arith)
    one (a ∷ []) n b = ap (λ (x : ℕ). x ∷ []) b
    one (a ∷ c ∷ l) n b = absurd (omega arith)

mark_is : is_slot_mark slot_mark ≡ true
unfolding is_slot_mark
mark_is = refl

-- ---- the ways out

module _ (t found : List ℕ) where
  pub decodes_no_room : length found < longest → Decodes t found (refused 8) found
  decodes_no_room h = no_room h refl refl

  module _ (room : longest ≤ length found) where
    pub decodes_mark : is_slot_mark t ≡ true → Decodes t found (told 2 0) found
    decodes_mark h = a_mark room (mark_of t h) refl refl

    pub decodes_frame : (coding : ℕ) → coding < 2 → is_track coding t ≡ true → Decodes t found (told coding (count_of coding t)) (over (frame_of coding t) found)
    decodes_frame coding c h =
        let n : length (frame_of coding t) ≡ count_of coding t = length_frame_of coding t in
        let frame : IsTrackOf coding (frame_of coding t) t =
        record {
          known = c;
          bytes = frame_bytes coding t h;
          short = rw n (parts_of_track coding t h).short;
          track = coded_of_track coding t h;
        }
        in
        a_frame room coding (frame_of coding t) frame (rw n) refl

    module _ (no-mark : is_slot_mark t ≡ false) (not-of-4 : is_track 0 t ≡ false) (not-of-256 : is_track 1 t ≡ false) where
      no_frame : (coding : ℕ) (frame : List ℕ) → IsTrackOf coding frame t → ⊥
      no_frame zero frame is = false≢true (sym not-of-4 ∙ rw is.track (track_of_frame 0 frame is.bytes is.short))
      no_frame (suc zero) frame is = false≢true (sym not-of-256 ∙ rw is.track (track_of_frame 1 frame is.bytes is.short))
      no_frame (suc (suc coding)) frame is = omega (arith, is.known)

      pub decodes_no_track : Decodes t found (refused 9) found
      decodes_no_track = no_track room no_frame (λ e. false≢true (sym no-mark ∙ rw e mark_is)) refl refl
