-- Every answer is coded, and what was coded is read back: the decoder's call on what the coder's call left. By the coder's ways out, and because a result is
-- the only one. Assumes nothing.
use mathlib.Core.Path.{◌≡◌, ap}
use Prim.Native.Nat.{ℕ, ◌+◌, ◌*◌, ◌≤◌}
use native.Mathlib.Omega.{arith}
use native.Mathlib.Decide.{dec_le}
use mathlib.Core.List.{List}
use lib.IntN.{ℤ, pos, nat_abs, pos-ne-negsuc}
use lib.ListN.{length, take}
use Rattle.std.specs.Prelude.{Result, Ok, Err, IfOk}
use Rattle.refusals.specs.declared.Refusal.{Refusal}
use Rattle.refusals.specs.Number.{number_back}
use Rattle.lent.specs.Bytes.{Bytes}
use Rattle.lent.specs.Lent.{over}
use Rattle.lent.proofs.Over.{take_over}
use Rattle.frames.specs.Frame.{shortest_answer, longest_answer}
use Rattle.coil.specs.Track.{answer_track, answer_track_length}
use Rattle.coil.specs.Coder.{CodesAnswer}
use Rattle.coil.specs.Decoder.{DecodesAnswer}
use Rattle.coil.specs.Read.{Codable}
use Rattle.coil.proofs.Pairs.{length_track}
use Rattle.coil.proofs.RoundTrip.{reading_of_track}
use Rattle.coil.proofs.CodeWays.{codes_too_short, codes_too_long, codes_no_room, codes_served}
use Rattle.coil.proofs.Read.{what_is_told}
use Rattle.coil.proofs.Unique.{coil_code_unique}

-- every answer is coded that has room for its track
pub answer_coded : (answer found : List ℕ) (r : ℤ) (left : List ℕ) → 3 ≤ length answer → length answer ≤ 8451 → 2 + 2 * length answer ≤ length found
    → CodesAnswer answer found r left → (r ≡ pos (2 + 2 * length answer)) × (left ≡ over (answer_track answer) found)
unfolding shortest_answer longest_answer
answer_coded answer found r left least most room code = coil_code_unique code (codes_served answer found least most room)

module _ {answer room : List ℕ} {n : ℕ} {track : List ℕ} (code : CodesAnswer answer room (pos n) track) where
  -- a coder that answers a length was given nothing to refuse
  least : shortest_answer ≤ length answer
  least = go (dec_le shortest_answer (length answer))
    where
      go : Dec (shortest_answer ≤ length answer) → shortest_answer ≤ length answer
      go (yes h) = h
      go (no h) = absurd (pos-ne-negsuc n 6 (coil_code_unique code (codes_too_short answer room (omega arith))).0)

  most : length answer ≤ longest_answer
  most = go (dec_le (length answer) longest_answer)
    where
      go : Dec (length answer ≤ longest_answer) → length answer ≤ longest_answer
      go (yes h) = h
      go (no h) = absurd (pos-ne-negsuc n 6 (coil_code_unique code (codes_too_long answer room least (omega arith))).0)

  wide : answer_track_length (length answer) ≤ length room
  wide = go (dec_le (answer_track_length (length answer)) (length room))
    where
      go : Dec (answer_track_length (length answer) ≤ length room) → answer_track_length (length answer) ≤ length room
      go (yes h) = h
      go (no h) = absurd (pos-ne-negsuc n 7 (coil_code_unique code (codes_no_room answer room least most (omega arith))).0)

  size : n ≡ answer_track_length (length answer)
  size = ap nat_abs (coil_code_unique code (codes_served answer room least most wide)).0

  -- its first bytes, as many as it answers, are the track
  pub coded_track : take n track ≡ answer_track answer
  coded_track =
      let served = coil_code_unique code (codes_served answer room least most wide) in
      rw (served.1, size, ← (length_track answer)) (take_over (answer_track answer) room)

  -- decoding them gives the answer back
  pub answer_of_code : {found : List ℕ} {r : ℤ} {left : List ℕ} → Bytes answer → longest_answer ≤ length found → DecodesAnswer (take n track) found r left
      → (r ≡ pos (length answer)) × (left ≡ over answer found)
  answer_of_code {found} bytes wide_enough decode =
      let is : Codable answer = record { bytes = bytes; least = least; most = most } in
      (what_is_told (answer_track answer) found _ _ wide_enough (rw coded_track at decode)).of_answer answer (reading_of_track answer is)

-- the longest track is that of 8,451 bytes
pub answer_code_most : {answer room track : List ℕ} (r : Result ℕ Refusal) → CodesAnswer answer room (number_back r) track → IfOk r (λ n. n ≤ 16904)
unfolding number_back longest_answer
answer_code_most (Ok n) code = omega (arith, size code, most code)
answer_code_most (Err refusal) code = tt
