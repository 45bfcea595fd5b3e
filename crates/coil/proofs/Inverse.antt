-- A track of bytes with an answer's start, end and length, and good pairs alone, is the track of the answer that is read of it.
-- Byte by byte: a byte with good pairs is the half that its bits make. Assumes nothing.
use mathlib.Core.Path.{◌≡◌, refl, sym, ap, ◌∙◌}
use mathlib.Core.Bool.{true, cond}
use Prim.Native.Nat.{ℕ, zero, suc, ◌+◌, ◌*◌, ◌/◌, ◌%◌, ◌^◌, ◌≤◌, ◌<◌}
use native.Mathlib.Nat.{zero-add, div-one}
use native.Mathlib.Decide.{dec_lt}
use native.Mathlib.Numerals.{one-add}
use native.Mathlib.Omega.{arith}
use mathlib.Core.List.{List}
use borrow.Author.Tests.{eqb-true, eq-eqb}
use lib.Dec.{eqb}
use lib.ListN.{length, get_or, get_or-eq_default}
use lib.Seq.{ext_get_or}
use Rattle.lent.specs.Bytes.{Bytes}
use Rattle.lent.proofs.Every.{every, every_at}
use Rattle.coil.specs.Track.{pair_of, half, answer_track}
use Rattle.coil.specs.Decoder.{pair_at, byte_at, bytes_from}
use Rattle.coil.specs.Read.{Codable, Framed, Good, zero_bit, one_bit, GoodBefore}
use Rattle.coil.specs.Steps.{four_bits, flaw, flaws}
use Rattle.coil.proofs.Pairs.{length_track, track_start, track_byte, track_end}
use Rattle.coil.proofs.Flaws.{pair_in, pair_in_lem}
use Rattle.coil.proofs.Bytes.{four_bits_most, byte_of_fours, length_bytes_from, byte_from}

-- ---- one byte of the track

good_flaw : {pair : ℕ} → Good pair → flaw pair ≡ 0
unfolding flaw
good_flaw zero_bit = refl
good_flaw one_bit = refl

good_flaws : (t : List ℕ) (i : ℕ) → ((q : ℕ) → q < 4 → Good (pair_at t (4 * i + q))) → flaws (get_or t (1 + i) 0) ≡ 0
unfolding flaws
good_flaws t i good =
    let b : ℕ = get_or t (1 + i) 0 in
    let none : (q : ℕ) → q < 4 → flaw (pair_in b q) ≡ 0 = λ q h. ap flaw (sym (pair_in_lem t i q h)) ∙ good_flaw (good q h) in
    let last : flaw (b % 4) ≡ 0 = ap (λ (x : ℕ). flaw (x % 4)) (sym (div-one b)) ∙ none 3 (omega arith) in
    omega (arith, none 0 (omega arith), none 1 (omega arith), none 2 (omega arith), last)

-- the half that its bits make
half_of_bits : (b : ℕ) → b < 256 → flaws b ≡ 0 → half (four_bits b) ≡ b
unfolding every half pair_of four_bits flaws flaw
half_of_bits b h none =
    eqb-true (half (four_bits b)) b
    (go (every_at 256 (λ k. cond (eqb (flaws k) 0) (eqb (half (four_bits k)) k) true) refl b h))
  where
    go : cond (eqb (flaws b) 0) (eqb (half (four_bits b)) b) true ≡ true → eqb (half (four_bits b)) b ≡ true
    go e = rw (eq-eqb (flaws b) 0 none) at e

-- a half looks at four bits alone
half_low : (a b : ℕ) → half (a + 16 * b) ≡ half a
unfolding half
half_low a b =
    let two : (a + 16 * b) / 2 ≡ a / 2 + 8 * b = omega arith in
    let four : (a + 16 * b) / 4 ≡ a / 4 + 4 * b = omega arith in
    let eight : (a + 16 * b) / 8 ≡ a / 8 + 2 * b = omega arith in
    let p : (a + 16 * b) % 2 ≡ a % 2 = omega arith in
    let q : (a / 2 + 8 * b) % 2 ≡ a / 2 % 2 = omega arith in
    let r : (a / 4 + 4 * b) % 2 ≡ a / 4 % 2 = omega arith in
    let s : (a / 8 + 2 * b) % 2 ≡ a / 8 % 2 = omega arith in
    rw (two, four, eight, p, q, r, s)

-- ---- all of it

module _ (n : ℕ) (t : List ℕ) (bytes : Bytes t) (framed : Framed n t) (good : GoodBefore (8 * n) t) where
  abbrev answer : List ℕ
  answer = bytes_from t 0 n

  answer_length : length answer ≡ n
  answer_length = length_bytes_from t 0 n

  -- byte k of the answer
  two_of : (k : ℕ) → k < n → get_or answer k 0 ≡ four_bits (get_or t (1 + 2 * k) 0) + 16 * four_bits (get_or t (1 + (2 * k + 1)) 0)
  two_of k h = byte_from t 0 n k h ∙ ap (byte_at t) (zero-add k) ∙ byte_of_fours t k

  back : (i : ℕ) → i < 2 * n → half (four_bits (get_or t (1 + i) 0)) ≡ get_or t (1 + i) 0
  back i h = half_of_bits (get_or t (1 + i) 0) (bytes (1 + i)) (good_flaws t i (λ q l. good (4 * i + q) (omega arith)))

  low_byte : (k : ℕ) → k < n → half (get_or answer k 0) ≡ get_or t (1 + 2 * k) 0
  low_byte k h =
      rw (two_of k h) (half_low (four_bits (get_or t (1 + 2 * k) 0)) (four_bits (get_or t (1 + (2 * k + 1)) 0)))
      ∙ back (2 * k) (omega arith)

  high_byte : (k : ℕ) → k < n → half (get_or answer k 0 / 16) ≡ get_or t (1 + (2 * k + 1)) 0
  high_byte k h =
      let a : ℕ = four_bits (get_or t (1 + 2 * k) 0) in
      let b : ℕ = four_bits (get_or t (1 + (2 * k + 1)) 0) in
      let few : a ≤ 15 = four_bits_most (get_or t (1 + 2 * k) 0) in
      let high : (a + 16 * b) / 16 ≡ b = omega arith in
      rw (two_of k h, high) (back (2 * k + 1) (omega arith))

  -- byte i after the start
  byte_back : (i : ℕ) → i < 2 * n → get_or t (1 + i) 0 ≡ get_or (answer_track answer) (1 + i) 0
  byte_back i h =
      let k : ℕ = i / 2 in
      let inside : i < 2 * length answer = omega (arith, answer_length) in
      rw (track_byte answer i inside) (side (i % 2) refl (omega arith))
    where
      side : (s : ℕ) → i % 2 ≡ s → s < 2 → get_or t (1 + i) 0 ≡ half (get_or answer (i / 2) 0 / 16 ^ s)
      side zero e l =
          let place : i ≡ 2 * (i / 2) = omega arith in
          ap (λ (j : ℕ). get_or t (1 + j) 0) place ∙ sym (low_byte (i / 2) (omega arith)) ∙ ap half (sym (div-one (get_or answer (i / 2) 0)))
      side (suc zero) e l =
          let place : i ≡ 2 * (i / 2) + 1 = omega arith in
          ap (λ (j : ℕ). get_or t (1 + j) 0) place ∙ sym (high_byte (i / 2) (omega arith))
      side (suc (suc s)) e l = absurd (omega arith)

  place_back : (j : ℕ) → j < length t → get_or t j 0 ≡ get_or (answer_track answer) j 0
  place_back zero h = framed.starts ∙ sym (track_start answer)
  place_back (suc i) h = rw (← one-add i) (go (dec_lt i (2 * n)))
    where
      go : Dec (i < 2 * n) → get_or t (1 + i) 0 ≡ get_or (answer_track answer) (1 + i) 0
      go (yes l) = byte_back i l
      go (no l) =
          let last : i ≡ 2 * n = omega (arith, framed.long) in
          rw last (framed.ends ∙ sym (rw answer_length at (track_end answer)))

  pub track_read : t ≡ answer_track answer
  track_read =
      let long : length (answer_track answer) ≡ length t = length_track answer ∙ rw answer_length (sym framed.long) in
      ext_get_or 0 t (answer_track answer) (sym long) place_back

  pub answer_read_is : Codable answer
  answer_read_is =
      record {
        bytes = λ k. below k (dec_lt k n);
        least = rw answer_length framed.least;
        most = rw answer_length framed.most;
      }
    where
      below : (k : ℕ) → Dec (k < n) → get_or answer k 0 < 256
      below k (yes h) = rw (two_of k h) (omega (arith, four_bits_most (get_or t (1 + 2 * k) 0), four_bits_most (get_or t (1 + (2 * k + 1)) 0)))
      below k (no h) =
          let none : get_or answer k 0 ≡ 0 = past k (omega (arith, answer_length)) in
          omega arith
        where
          past : (k : ℕ) → length answer ≤ k → get_or answer k 0 ≡ 0
          past k l = get_or-eq_default answer 0 l
