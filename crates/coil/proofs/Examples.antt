-- The examples of answers on the coil: each result by computation and by the ways out, and it is the only one. Assumes nothing.
use mathlib.Core.Path.{◌≡◌, refl, ◌∙◌}
use mathlib.Core.Bool.{Bool, true, false}
use Prim.Native.Nat.{ℕ, ◌+◌, ◌-◌, ◌*◌, ◌/◌, ◌%◌, ◌^◌, ◌<◌}
use native.Mathlib.Decide.{dec_lt}
use native.Mathlib.Omega.{arith}
use mathlib.Core.List.{List, [], ◌∷◌, ◌++◌}
use lib.ListN.{length, get_or, drop, replicate, get_or-append, get_or-eq_default}
use Rattle.lent.specs.Lent.{over}
use Rattle.lent.proofs.Bytes.{bytes_none, bytes_cons}
use Rattle.frames.specs.Frame.{shortest_answer, longest_answer}
use Rattle.coil.specs.Track.{pair_of, half, pulses, answer_track}
use Rattle.coil.specs.Decoder.{an_answer, a_clash, a_loss, is_framed, bytes_in, number, written, reading, read_to, first_bad, first_from, is_bad, pair_at}
use Rattle.coil.specs.Coder.{is_answer_length}
use Rattle.coil.specs.Read.{Codable, Framed}
use Rattle.coil.specs.Overlay.{overlay, on_coil}
use Rattle.coil.specs.Examples.{Coil}
use Rattle.coil.proofs.Pairs.{length_track, track_byte}
use Rattle.coil.proofs.Framed.{framed_of_test, reading_clash, reading_loss}
use Rattle.coil.proofs.RoundTrip.{reading_of_track}
use Rattle.coil.proofs.CodeWays.{codes_too_short, codes_too_long, codes_no_room, codes_served}
use Rattle.coil.proofs.DecodeWays.{decodes_no_room, decodes_reading, decodes_no_track}
use Rattle.coil.proofs.Unique.{coil_code_unique, coil_decode_unique}

-- ---- E1

-- byte j after the start of a track that was coded
coded_byte : (answer found : List ℕ) (j : ℕ) → j < 2 * length answer
    → get_or (over (answer_track answer) found) (1 + j) 0 ≡ half (get_or answer (j / 2) 0 / 16 ^ (j % 2))
unfolding over
coded_byte answer found j h =
    get_or-append (answer_track answer) (drop (length (answer_track answer)) found) 0 (1 + j) (rw (length_track answer) (omega arith))
    ∙ track_byte answer j h

e1_halves : (half 0xe1 ≡ 0x6a) × (half (0xe1 / 16) ≡ 0x95)
unfolding half pair_of
e1_halves = (refl, refl)

module _ (answer found : List ℕ) (i : ℕ) (is : get_or answer i 0 ≡ 0xe1) where
  inside : i < length answer
  inside = go (dec_lt i (length answer))
    where
      go : Dec (i < length answer) → i < length answer
      go (yes h) = h
      go (no h) =
          let none : get_or answer i 0 ≡ 0 = get_or-eq_default answer 0 (omega arith) in
          absurd (omega arith)

  e1_coded : (get_or (over (answer_track answer) found) (1 + 2 * i) 0 ≡ 0x6a) × (get_or (over (answer_track answer) found) (2 + 2 * i) 0 ≡ 0x95)
  e1_coded =
      let h : i < length answer = inside in
      let even : 2 * i / 2 ≡ i = omega arith in
      let first : 2 * i % 2 ≡ 0 = omega arith in
      let odd : (2 * i + 1) / 2 ≡ i = omega arith in
      let second : (2 * i + 1) % 2 ≡ 1 = omega arith in
      let place : 2 + 2 * i ≡ 1 + (2 * i + 1) = omega arith in (
        rw (coded_byte answer found (2 * i) (omega arith), even, first, is) e1_halves.0,
        rw (place, coded_byte answer found (2 * i + 1) (omega arith), odd, second, is) e1_halves.1,
      )

-- ---- a byte for each bit

abbrev bits : List ℕ
bits = 0x01 ∷ 0x02 ∷ 0x04 ∷ 0x08 ∷ 0x10 ∷ 0x20 ∷ 0x40 ∷ 0x80 ∷ []

bits_track : answer_track bits
    ≡ 0x1d ∷ 0x6a ∷ 0xaa ∷ 0x9a ∷ 0xaa ∷ 0xa6 ∷ 0xaa ∷ 0xa9 ∷ 0xaa ∷ 0xaa ∷ 0x6a ∷ 0xaa ∷ 0x9a ∷ 0xaa ∷ 0xa6 ∷ 0xaa ∷ 0xa9 ∷ 0xb8 ∷ []
unfolding answer_track pulses half pair_of
bits_track = refl

-- ---- a plain success

abbrev plain : List ℕ
plain = 0x00 ∷ 0x78 ∷ 0xf0 ∷ []

plain_track : answer_track plain ≡ 0x1d ∷ 0xaa ∷ 0xaa ∷ 0xa9 ∷ 0x56 ∷ 0xaa ∷ 0x55 ∷ 0xb8 ∷ []
unfolding answer_track pulses half pair_of
plain_track = refl

plain_answer : Codable plain
unfolding shortest_answer longest_answer
plain_answer =
    record {
      bytes = bytes_cons 0x00 (0x78 ∷ 0xf0 ∷ []) (omega arith) (bytes_cons 0x78 (0xf0 ∷ []) (omega arith) (bytes_cons 0xf0 [] (omega arith) bytes_none));
      least = omega arith;
      most = omega arith;
    }

-- ---- no track

not_framed : (t : List ℕ) → (Framed (bytes_in t) t → ⊥) → is_framed t ≡ false
not_framed t no_way = go (is_framed t) refl
  where
    go : (b : Bool) → is_framed t ≡ b → b ≡ false
    go true e = absurd (no_way (framed_of_test t e))
    go false e = refl

no_end_framed : (t : List ℕ) → (get_or t (length t - 1) 0 ≡ 0xb8 → ⊥) → Framed (bytes_in t) t → ⊥
no_end_framed t other framed =
    let last : length t - 1 ≡ 1 + 2 * bytes_in t = omega (arith, framed.long) in
    other (rw last framed.ends)

-- ---- faults

-- what is read of these eight bytes
one_read : reading (0x1d ∷ 0xba ∷ 0xaa ∷ 0xa9 ∷ 0x56 ∷ 0xaa ∷ 0x54 ∷ 0xb8 ∷ []) ≡ a_clash 1
unfolding reading read_to is_framed bytes_in is_answer_length shortest_answer longest_answer first_bad first_from is_bad pair_at
one_read = refl

four_read : reading (0x1d ∷ 0xaa ∷ 0x2e ∷ 0xa9 ∷ 0x56 ∷ 0xaa ∷ 0x55 ∷ 0xb8 ∷ []) ≡ a_loss 4
unfolding reading read_to is_framed bytes_in is_answer_length shortest_answer longest_answer first_bad first_from is_bad pair_at
four_read = refl

last_read : reading (0x1d ∷ 0xaa ∷ 0xaa ∷ 0xa9 ∷ 0x56 ∷ 0xaa ∷ 0x54 ∷ 0xb8 ∷ []) ≡ a_loss 23
unfolding reading read_to is_framed bytes_in is_answer_length shortest_answer longest_answer first_bad first_from is_bad pair_at
last_read = refl

laid_read : reading (0x1d ∷ 0xba ∷ 0xaa ∷ 0xa9 ∷ 0x56 ∷ 0xaa ∷ 0x55 ∷ 0xb8 ∷ []) ≡ a_clash 1
unfolding reading read_to is_framed bytes_in is_answer_length shortest_answer longest_answer first_bad first_from is_bad pair_at
laid_read = refl

far_read : reading (0x1d ∷ replicate 39 0xaa ++ 0xa8 ∷ 0xb8 ∷ []) ≡ a_loss 159
unfolding reading read_to is_framed bytes_in is_answer_length shortest_answer longest_answer first_bad first_from is_bad pair_at
far_read = refl

laid : on_coil (plain ∷ (0x02 ∷ 0x78 ∷ 0xf0 ∷ []) ∷ []) ≡ 0x1d ∷ 0xba ∷ 0xaa ∷ 0xa9 ∷ 0x56 ∷ 0xaa ∷ 0x55 ∷ 0xb8 ∷ []
unfolding on_coil overlay answer_track pulses half pair_of
laid = refl

-- ---- all of them

pub coil : Coil
unfolding shortest_answer longest_answer number written
coil =
    record {
      e1 = λ answer found r left i least most room p is.
          rw (coil_code_unique p (codes_served answer found least most room)).1 (e1_coded answer found i is);
      each_bit = λ found r left room p. rw bits_track at (coil_code_unique p (codes_served bits found (omega arith) (omega arith) room));
      success = λ found r left room p. rw plain_track at (coil_code_unique p (codes_served plain found (omega arith) (omega arith) room));
      success_read = λ found r left room p.
          coil_decode_unique p (rw plain_track at (decodes_reading (answer_track plain) found room (an_answer plain) (reading_of_track plain plain_answer)));
      two_bytes = λ answer found r left n p. coil_code_unique p (codes_too_short answer found (omega arith));
      too_long = λ answer found r left n p. coil_code_unique p (codes_too_long answer found (omega arith) n);
      track_room_short = λ answer found r left least most room p. coil_code_unique p (codes_no_room answer found least most room);
      room_short = λ t found r left n p. coil_decode_unique p (decodes_no_room t found (omega arith));
      no_end = λ t found r left room other p. coil_decode_unique p (decodes_no_track t found room (not_framed t (no_end_framed t other)));
      no_start = λ t found r left room other p. coil_decode_unique p (decodes_no_track t found room (not_framed t (λ framed. other framed.starts)));
      track_short = λ t found r left room few p.
          coil_decode_unique p (decodes_no_track t found room (not_framed t (λ framed. absurd (omega (arith, framed.long, framed.least)))));
      track_long = λ t found r left room many p.
          coil_decode_unique p (decodes_no_track t found room (not_framed t (λ framed. absurd (omega (arith, framed.long, framed.most)))));
      odd_length = λ t found n r left room odd p.
          coil_decode_unique p (decodes_no_track t found room (not_framed t (λ framed. absurd (omega (arith, framed.long, odd)))));
      clash_at_0 = λ t found n r left room framed pair p.
          let read = reading_clash n 0 t framed (omega (arith, framed.least)) (λ i h. absurd (omega arith)) pair in
          coil_decode_unique p (decodes_reading t found room (a_clash 0) read);
      lost_at_0 = λ t found n r left room framed pair p.
          let read = reading_loss n 0 t framed (omega (arith, framed.least)) (λ i h. absurd (omega arith)) pair in
          coil_decode_unique p (decodes_reading t found room (a_loss 0) read);
      clash_at_1 = λ found r left room p. coil_decode_unique p (decodes_reading _ found room (a_clash 1) one_read);
      lost_at_4 = λ found r left room p. coil_decode_unique p (decodes_reading _ found room (a_loss 4) four_read);
      lost_at_23 = λ found r left room p. coil_decode_unique p (decodes_reading _ found room (a_loss 23) last_read);
      lost_at_159 = λ found r left room p. coil_decode_unique p (decodes_reading _ found room (a_loss 159) far_read);
      laid_over = laid;
      laid_over_read = laid_read;
    }
