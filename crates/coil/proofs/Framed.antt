-- A track with an answer's start, end and length by the decoder's test, and what is read of it by its first bad pair.
-- By the tests of the definitions. Assumes nothing.
use mathlib.Core.Path.{◌≡◌, refl}
use mathlib.Core.Bool.{Bool, true, false, ◌&&◌, ◌||◌, and-eq-true_iff, true≢false}
use Prim.Native.Nat.{ℕ, zero, suc, ◌+◌, ◌-◌, ◌*◌, ◌/◌, ◌<◌}
use native.Mathlib.Decide.{dec_lt}
use native.Mathlib.Omega.{arith}
use mathlib.Core.List.{List}
use borrow.Author.Tests.{eqb-true, leb-true, eq-eqb, ne_eqb, le-leb, lt-ltb, le-ltb}
use lib.Dec.{eqb, leb}
use lib.ListN.{length, get_or}
use Rattle.frames.specs.Frame.{shortest_answer, longest_answer}
use Rattle.coil.specs.Track.{start, end, answer_track_length}
use Rattle.coil.specs.Coder.{is_answer_length}
use Rattle.coil.specs.Decoder.{bytes_in, is_framed, pair_at, is_clash, is_lost, is_bad, first_from, first_bad, bytes_from, an_answer, a_clash, a_loss, read_to, reading}
use Rattle.coil.specs.Read.{Framed, Good, zero_bit, one_bit, GoodBefore}
use Rattle.coil.proofs.First.{First, first_from_lem, first_is, first_none}

-- ---- start, end and length

pub bytes_of_framed : (n : ℕ) (t : List ℕ) → Framed n t → bytes_in t ≡ n
unfolding bytes_in
bytes_of_framed n t p = omega (arith, p.long)

pub test_of_framed : (n : ℕ) (t : List ℕ) → Framed n t → is_framed t ≡ true
unfolding is_framed is_answer_length
test_of_framed n t p =
    let last : length t - 1 ≡ 1 + 2 * n = omega (arith, p.long) in
    rw (
      bytes_of_framed n t p,
      last,
      eq-eqb (length t) (answer_track_length n) p.long,
      le-leb shortest_answer n p.least,
      le-leb n longest_answer p.most,
      p.starts,
      p.ends,
    )

pub framed_of_test : (t : List ℕ) → is_framed t ≡ true → Framed (bytes_in t) t
unfolding is_framed is_answer_length
framed_of_test t e =
    let n : ℕ = bytes_in t in
    let first : Bool = eqb (get_or t 0 0) start in
    let last : Bool = eqb (get_or t (length t - 1) 0) end in
    let a = (and-eq-true_iff (eqb (length t) (answer_track_length n)) (leb shortest_answer n && leb n longest_answer && (first && last))).0 e in
    let b = (and-eq-true_iff (leb shortest_answer n && leb n longest_answer) (first && last)).0 a.1 in
    let c = (and-eq-true_iff (leb shortest_answer n) (leb n longest_answer)).0 b.0 in
    let d = (and-eq-true_iff first last).0 b.1 in
    let long : length t ≡ 2 + 2 * n = eqb-true (length t) (answer_track_length n) a.0 in
    let place : length t - 1 ≡ 1 + 2 * n = omega arith in
    record {
      least = leb-true shortest_answer n c.0;
      most = leb-true n longest_answer c.1;
      long = long;
      starts = eqb-true (get_or t 0 0) start d.0;
      ends = rw (← place) (eqb-true (get_or t (length t - 1) 0) end d.1);
    }

-- bytes that are too few for start and end
pub too_short : (t : List ℕ) → length t < 2 → is_framed t ≡ false
unfolding is_framed is_answer_length bytes_in shortest_answer
too_short t h =
    let none : (length t - 2) / 2 ≡ 0 = omega arith in
    rw (ne_eqb (length t) (2 + 2 * ((length t - 2) / 2)) (omega arith))

-- ---- good pairs and bad ones

good_test : {pair : ℕ} → Good pair → (is_clash pair || is_lost pair) ≡ false
good_test zero_bit = refl
good_test one_bit = refl

test_good : (pair : ℕ) → pair < 4 → (is_clash pair || is_lost pair) ≡ false → Good pair
test_good zero h e = absurd (true≢false e)
test_good (suc zero) h e = one_bit
test_good (suc (suc zero)) h e = zero_bit
test_good (suc (suc (suc zero))) h e = absurd (true≢false e)
test_good (suc (suc (suc (suc pair)))) h e = absurd (omega arith)

pub pair_below : (t : List ℕ) (i : ℕ) → pair_at t i < 4
unfolding pair_at
pair_below t i = omega arith

-- the pairs of n bytes: all are good, or the first that is not
pub data Judged (n : ℕ) (t : List ℕ) : Type 0 where
  all_good : GoodBefore (8 * n) t → Judged n t
  clash_at : (k : ℕ) → k < 8 * n → GoodBefore k t → pair_at t k ≡ 3 → Judged n t
  loss_at : (k : ℕ) → k < 8 * n → GoodBefore k t → pair_at t k ≡ 0 → Judged n t

pub judged : (n : ℕ) (t : List ℕ) → Judged n t
unfolding is_bad
judged n t = go (dec_lt k (8 * n))
  where
    k : ℕ
    k = first_from (is_bad t) 0 (8 * n)

    first : First (is_bad t) 0 (8 * n) k
    first = first_from_lem (is_bad t) 0 (8 * n)

    good : GoodBefore k t
    good i h = test_good (pair_at t i) (pair_below t i) (first.fails i (omega arith) h)

    bad : (b : Bool) → is_clash (pair_at t k) ≡ b → (b || is_lost (pair_at t k)) ≡ true → k < 8 * n → Judged n t
    bad true e o h = clash_at k h good (eqb-true (pair_at t k) 3 e)
    bad false e o h = loss_at k h good (eqb-true (pair_at t k) 0 o)

    go : Dec (k < 8 * n) → Judged n t
    go (yes h) = bad (is_clash (pair_at t k)) refl (first.holds (omega arith)) h
    go (no h) = all_good (λ i g. good i (omega arith))

-- ---- what is read of a framed track

pub reading_answer : (n : ℕ) (t : List ℕ) → Framed n t → GoodBefore (8 * n) t → reading t ≡ an_answer (bytes_from t 0 n)
unfolding reading read_to first_bad is_bad
reading_answer n t p good =
    rw (
      test_of_framed n t p,
      bytes_of_framed n t p,
      first_none (is_bad t) 0 (8 * n) (λ i h g. good_test (good i (omega arith))),
      le-ltb (0 + 8 * n) (8 * n) (omega arith),
    )

module _ (n k : ℕ) (t : List ℕ) (p : Framed n t) (h : k < 8 * n) (good : GoodBefore k t) where
  first_at : (is_clash (pair_at t k) || is_lost (pair_at t k)) ≡ true → First (is_bad t) 0 (8 * n) k
  unfolding is_bad
  first_at bad = record { least = omega arith; most = omega arith; holds = λ g. bad; fails = λ i g l. good_test (good i l) }

  pub reading_clash : pair_at t k ≡ 3 → reading t ≡ a_clash k
  unfolding reading read_to first_bad
  reading_clash e = rw (test_of_framed n t p, bytes_of_framed n t p, first_is (first_at (rw e)), lt-ltb k (8 * n) h, e)

  pub reading_loss : pair_at t k ≡ 0 → reading t ≡ a_loss k
  unfolding reading read_to first_bad
  reading_loss e = rw (test_of_framed n t p, bytes_of_framed n t p, first_is (first_at (rw e)), lt-ltb k (8 * n) h, e)
