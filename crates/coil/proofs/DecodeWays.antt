-- The ways out of the decoder, in 02's order: 8, 12, an answer, a clash, a lost bit. By the tests of its definition. Assumes nothing.
use mathlib.Core.Path.{◌≡◌, refl, ap}
use mathlib.Core.Bool.{Bool, true, false, cond}
use Prim.Native.Nat.{ℕ, ◌+◌, ◌-◌, ◌*◌, ◌/◌, ◌≤◌, ◌<◌}
use mathlib.Core.List.{List}
use native.Mathlib.Omega.{arith}
use borrow.Author.Tests.{le-leb, lt-leb, le-ltb, lt-ltb}
use lib.ListN.{length}
use Rattle.std.specs.Prelude.{Ok, Some, None}
use Rattle.lent.specs.Lent.{over, refused}
use Rattle.frames.specs.Frame.{longest_answer}
use Rattle.coil.specs.Decoder.{bytes_in, is_framed, pair_at, is_bad, first_from, first_bad, bytes_from, Reading, an_answer, a_clash}
use Rattle.coil.specs.Decoder.{a_loss, no_track, read_to, reading, told, number, written, decode_answer, decode_leaves, DecodesAnswer, is_clash}
use Rattle.coil.specs.Steps.{found_in, bad_bit}
use Rattle.coil.specs.declared.decoder.Decoded.TheVariants.{Clash, Lost}
use Rattle.coil.specs.Decoded.{IsKnown, decoded_back}
use Rattle.coil.proofs.First.{found_is, none_found}
use Rattle.coil.proofs.Bytes.{length_bytes_from}
use Rattle.coil.proofs.Framed.{framed_of_test}

module _ (t found : List ℕ) where
  pub decodes_no_room : length found < longest_answer → DecodesAnswer t found (refused 8) found
  unfolding decode_answer decode_leaves
  decodes_no_room h = record { tells = rw (lt-leb longest_answer (length found) h); leaves = rw (lt-leb longest_answer (length found) h) }

  module _ (room : longest_answer ≤ length found) where
    -- by what is read
    pub decodes_reading : (read : Reading) → reading t ≡ read → DecodesAnswer t found (number read) (written read found)
    unfolding decode_answer decode_leaves
    decodes_reading read is =
        record { tells = rw (le-leb longest_answer (length found) room, is); leaves = rw (le-leb longest_answer (length found) room, is) }

    pub decodes_no_track : is_framed t ≡ false → DecodesAnswer t found (refused 12) found
    unfolding reading number written
    decodes_no_track h = decodes_reading no_track (rw h)

    module _ (framed : is_framed t ≡ true) where
      pub decodes_answer : 8 * bytes_in t ≤ first_bad t → DecodesAnswer t found (told 0 (bytes_in t)) (over (bytes_from t 0 (bytes_in t)) found)
      unfolding reading read_to number written
      decodes_answer h =
          rw (length_bytes_from t 0 (bytes_in t)) at
          (decodes_reading (an_answer (bytes_from t 0 (bytes_in t))) (rw (framed, le-ltb (first_bad t) (8 * bytes_in t) h)))

      pub decodes_bad : first_bad t < 8 * bytes_in t → DecodesAnswer t found (decoded_back (Ok (bad_bit t (first_bad t)))) found
      unfolding reading read_to number written bad_bit decoded_back
      decodes_bad some = go (is_clash (pair_at t (first_bad t))) refl
        where
          go : (b : Bool) → is_clash (pair_at t (first_bad t)) ≡ b
              → DecodesAnswer t found (decoded_back (Ok (cond b (Clash (first_bad t)) (Lost (first_bad t))))) found
          go true e = decodes_reading (a_clash (first_bad t)) (rw (framed, lt-ltb (first_bad t) (8 * bytes_in t) some, e))
          go false e = decodes_reading (a_loss (first_bad t)) (rw (framed, lt-ltb (first_bad t) (8 * bytes_in t) some, e))

-- ---- what the code computes of a framed track

module _ (t : List ℕ) (framed : is_framed t ≡ true) where
  pub framed_length : length t ≡ 2 + 2 * ((length t - 2) / 2)
  unfolding bytes_in
  framed_length = (framed_of_test t framed).long

  pub framed_most : (length t - 2) / 2 ≤ 8451
  unfolding bytes_in longest_answer
  framed_most = (framed_of_test t framed).most

module _ (t : List ℕ) where
  -- the bits of all bytes after the start, by their number
  first_bad_by_bytes : first_from (is_bad t) 0 (4 * (2 * ((length t - 2) / 2))) ≡ first_bad t
  unfolding first_bad bytes_in
  first_bad_by_bytes =
      let n : ℕ = (length t - 2) / 2 in
      let all : 4 * (2 * n) ≡ 8 * n = omega arith in
      ap (λ (m : ℕ). first_from (is_bad t) 0 m) all

  pub bad_bit_found : (k : ℕ) → Some k ≡ found_in (4 * (2 * ((length t - 2) / 2))) (first_from (is_bad t) 0 (4 * (2 * ((length t - 2) / 2))))
      → (k ≡ first_bad t) × (first_bad t < 8 * bytes_in t)
  unfolding bytes_in
  bad_bit_found k is =
      let both = found_is (4 * (2 * ((length t - 2) / 2))) (first_bad t) k (rw first_bad_by_bytes at is) in
      (both.0, omega (arith, both.1))

  pub no_bad_bit : None ≡ found_in (4 * (2 * ((length t - 2) / 2))) (first_from (is_bad t) 0 (4 * (2 * ((length t - 2) / 2)))) → 8 * bytes_in t ≤ first_bad t
  unfolding bytes_in
  no_bad_bit is = omega (arith, none_found (4 * (2 * ((length t - 2) / 2))) (first_bad t) (rw first_bad_by_bytes at is))

  pub bad_bit_known : (k : ℕ) → k < 131072 → IsKnown (bad_bit t k)
  unfolding bad_bit
  bad_bit_known k h = go (is_clash (pair_at t k))
    where
      go : (b : Bool) → IsKnown (cond b (Clash k) (Lost k))
      go true = h
      go false = h
