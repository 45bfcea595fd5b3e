-- What is read of any bytes: with a room of 8,451 a result that the decoder's promise allows is one of four, each as Read.antt of specs/ tells it.
-- By the test of start, end and length, and the first bad pair. Assumes nothing.
use mathlib.Core.Path.{◌≡◌, refl, sym, ◌∙◌}
use mathlib.Core.Bool.{Bool, true, false, false≢true}
use Prim.Native.Nat.{ℕ, ◌≤◌}
use mathlib.Core.List.{List}
use native.Mathlib.Nat.{zero-add}
use lib.IntN.{ℤ}
use lib.ListN.{length}
use Rattle.lent.specs.Bytes.{Bytes}
use Rattle.frames.specs.Frame.{longest_answer}
use Rattle.coil.specs.Decoder.{is_framed, bytes_in, bytes_from, Reading, an_answer, a_clash, a_loss, no_track, reading, number, written, DecodesAnswer}
use Rattle.coil.specs.Read.{Framed, TrackReads, answer_read, clash_read, loss_read, none_read, Tells}
use Rattle.coil.proofs.Framed.{Judged, all_good, clash_at, loss_at, judged, test_of_framed, framed_of_test, reading_answer, reading_clash, reading_loss}
use Rattle.coil.proofs.DecodeWays.{decodes_reading}
use Rattle.coil.proofs.Inverse.{track_read, answer_read_is}
use Rattle.coil.proofs.Unique.{coil_decode_unique}

module _ (t found : List ℕ) (r : ℤ) (left : List ℕ) (room : longest_answer ≤ length found) (decodes : DecodesAnswer t found r left) where
  -- the answer and the buffer of what is read
  told_as : (read : Reading) → reading t ≡ read → (r ≡ number read) × (left ≡ written read found)
  told_as read is = coil_decode_unique decodes (decodes_reading t found room read is)

  by_pairs : (n : ℕ) → Bytes t → Framed n t → Judged n t → TrackReads t found r left
  unfolding number written
  by_pairs n bytes framed (all_good good) =
      let result = told_as (an_answer (bytes_from t 0 n)) (reading_answer n t framed good) in
      answer_read (bytes_from t 0 n) (answer_read_is n t bytes framed good) (track_read n t bytes framed good) (rw zero-add at result.0) result.1
  by_pairs n bytes framed (clash_at k h good pair) =
      let result = told_as (a_clash k) (reading_clash n k t framed h good pair) in
      clash_read n k framed h good pair result.0 result.1
  by_pairs n bytes framed (loss_at k h good pair) =
      let result = told_as (a_loss k) (reading_loss n k t framed h good pair) in
      loss_read n k framed h good pair result.0 result.1

  pub what_is_read : Bytes t → TrackReads t found r left
  unfolding reading number written
  what_is_read bytes = go (is_framed t) refl
    where
      go : (b : Bool) → is_framed t ≡ b → TrackReads t found r left
      go true e = by_pairs (bytes_in t) bytes (framed_of_test t e) (judged (bytes_in t) t)
      go false e =
          let result = told_as no_track (rw e) in
          none_read (λ n framed. false≢true (sym e ∙ test_of_framed n t framed)) result.0 result.1

  pub what_is_told : Tells t found r left
  unfolding number written
  what_is_told =
      record {
        of_answer = λ answer is. rw zero-add at (told_as (an_answer answer) is);
        of_clash = λ k is. told_as (a_clash k) is;
        of_loss = λ k is. told_as (a_loss k) is;
        of_none = λ is. told_as no_track is;
      }
