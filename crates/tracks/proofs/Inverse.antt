-- The decoder's call and the coder's are inverse to each other: what was coded is read back with its coding, and every row of bytes is answered.
-- By the ways out, and because a result is the only one. Assumes nothing.
use mathlib.Core.Path.{◌≡◌, refl, ap}
use mathlib.Core.Bool.{Bool, true, false}
use Prim.Native.Nat.{ℕ, ◌≤◌, ◌<◌}
use native.Mathlib.Omega.{arith}
use native.Mathlib.Decide.{dec_le, dec_lt}
use mathlib.Core.List.{List}
use lib.IntN.{ℤ, pos, nat_abs, pos-ne-negsuc}
use lib.ListN.{length, take}
use Rattle.std.specs.Prelude.{Result, Ok, Err, IfOk}
use Rattle.refusals.specs.declared.Refusal.{Refusal}
use Rattle.refusals.specs.Number.{number_back}
use Rattle.lent.specs.Bytes.{Bytes}
use Rattle.lent.specs.Lent.{over}
use Rattle.lent.proofs.Over.{take_over}
use Rattle.frames.specs.Frame.{longest}
use Rattle.tracks.specs.Track.{track_of, track_length}
use Rattle.tracks.specs.Coder.{Codes}
use Rattle.tracks.specs.Decoder.{IsTrackOf, told, Decodes, a_frame}
use Rattle.tracks.specs.Steps.{is_track, is_slot_mark}
use Rattle.tracks.proofs.Units.{length_track, units_most}
use Rattle.tracks.proofs.CodeWays.{codes_too_long, codes_no_coding, codes_no_room, codes_served}
use Rattle.tracks.proofs.DecodeWays.{decodes_no_room, decodes_mark, decodes_frame, decodes_no_track}
use Rattle.tracks.proofs.Unique.{code_unique, decode_unique}

module _ {frame : List ℕ} {coding : ℕ} {room : List ℕ} {n : ℕ} {track : List ℕ} (code : Codes frame coding room (pos n) track) where
  -- a coder that answers a length was given nothing to refuse
  short : length frame ≤ longest
  short = go (dec_le (length frame) longest)
    where
      go : Dec (length frame ≤ longest) → length frame ≤ longest
      go (yes h) = h
      go (no h) = absurd (pos-ne-negsuc n 6 (code_unique code (codes_too_long frame coding room (omega arith))).0)

  known : coding < 2
  known = go (dec_lt coding 2)
    where
      go : Dec (coding < 2) → coding < 2
      go (yes h) = h
      go (no h) = absurd (pos-ne-negsuc n 6 (code_unique code (codes_no_coding frame coding room short (omega arith))).0)

  wide : track_length coding (length frame) ≤ length room
  wide = go (dec_le (track_length coding (length frame)) (length room))
    where
      go : Dec (track_length coding (length frame) ≤ length room) → track_length coding (length frame) ≤ length room
      go (yes h) = h
      go (no h) = absurd (pos-ne-negsuc n 7 (code_unique code (codes_no_room frame coding room short known (omega arith))).0)

  size : n ≡ track_length coding (length frame)
  size = ap nat_abs (code_unique code (codes_served frame coding room short known wide)).0

  -- its first bytes, as many as it answers, are the track
  track_of_code : take n track ≡ track_of coding frame
  track_of_code =
      let served = code_unique code (codes_served frame coding room short known wide) in
      rw (served.1, size, ← (length_track coding frame)) (take_over (track_of coding frame) room)

  -- decoding what was coded gives the frame and its coding back
  pub decode_of_code : {found : List ℕ} {r : ℤ} {left : List ℕ} → Bytes frame → longest ≤ length found → Decodes (take n track) found r left
      → (r ≡ told coding (length frame)) × (left ≡ over frame found)
  decode_of_code bs most decode =
      let is : IsTrackOf coding frame (track_of coding frame) = record { known = known; bytes = bs; short = short; track = refl } in
      decode_unique (rw track_of_code at decode) (a_frame most coding frame is refl refl)

-- the longest track is that of 64 bytes in 1 of 256
pub code_most : {frame : List ℕ} {coding : ℕ} {room track : List ℕ} (r : Result ℕ Refusal) → Codes frame coding room (number_back r) track → IfOk r (λ n. n ≤ 4098)
unfolding number_back longest
code_most {frame} {coding} (Ok n) code = omega (arith, size code, short code, units_most coding (length frame))
code_most (Err refusal) code = tt

-- every row of bytes is answered
pub decode_answers : (t found : List ℕ) → (r : ℤ) × (left : List ℕ) × Decodes t found r left
decode_answers t found = go (dec_lt (length found) longest)
  where
    by_tests : (m a b : Bool) → is_slot_mark t ≡ m → is_track 0 t ≡ a → is_track 1 t ≡ b → longest ≤ length found
        → (r : ℤ) × (left : List ℕ) × Decodes t found r left
    by_tests true a b m p q room = (_, _, decodes_mark t found room m)
    by_tests false true b m p q room = (_, _, decodes_frame t found room 0 (omega arith) p)
    by_tests false false true m p q room = (_, _, decodes_frame t found room 1 (omega arith) q)
    by_tests false false false m p q room = (_, _, decodes_no_track t found room m p q)

    go : Dec (length found < longest) → (r : ℤ) × (left : List ℕ) × Decodes t found r left
    go (yes h) = (_, _, decodes_no_room t found h)
    go (no h) = by_tests (is_slot_mark t) (is_track 0 t) (is_track 1 t) refl refl refl (omega arith)
