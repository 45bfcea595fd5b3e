-- An answer is read back from its track, and from any track with its start, end and length in which each pair is that of its bit.
-- By bytes joined from their bits. Answers of one length with the same bits are the same. Assumes nothing.
use mathlib.Core.Path.{◌≡◌, refl, sym, ap, ap₂, ◌∙◌}
use Prim.Native.Nat.{ℕ, zero, suc, ◌+◌, ◌*◌, ◌/◌, ◌%◌, ◌^◌, ◌<◌}
use native.Mathlib.Nat.{add-zero, zero-add}
use native.Mathlib.Omega.{arith}
use mathlib.Core.List.{List, [], ◌∷◌}
use borrow.Author.Tests.{eqb-true}
use lib.Dec.{eqb}
use lib.ListN.{length, get_or}
use lib.Seq.{ext_get_or}
use Rattle.lent.specs.Bytes.{Bytes}
use Rattle.lent.proofs.Every.{every, every_at}
use Rattle.coil.specs.Track.{bit, pair_of, answer_track}
use Rattle.coil.specs.Decoder.{pair_at, bit_at, byte_at, bytes_from, an_answer, reading}
use Rattle.coil.specs.Read.{Codable, Framed}
use Rattle.coil.proofs.Pairs.{length_track, track_start, track_end, pair_good, track_pair}
use Rattle.coil.proofs.Framed.{reading_answer}

-- ---- a byte is joined from its bits

abbrev joined : (ℕ → ℕ) → ℕ
joined f = f 0 + 2 * f 1 + 4 * f 2 + 8 * f 3 + 16 * f 4 + 32 * f 5 + 64 * f 6 + 128 * f 7

same_joined : (f g : ℕ → ℕ) → ((k : ℕ) → k < 8 → f k ≡ g k) → joined f ≡ joined g
same_joined f g same =
    rw (
      same 0 (omega arith),
      same 1 (omega arith),
      same 2 (omega arith),
      same 3 (omega arith),
      same 4 (omega arith),
      same 5 (omega arith),
      same 6 (omega arith),
      same 7 (omega arith),
    )

joined_bits : (v : ℕ) → v < 256 → joined (λ k. v / 2 ^ k % 2) ≡ v
unfolding every
joined_bits v h = eqb-true (joined (λ k. v / 2 ^ k % 2)) v (every_at 256 (λ b. eqb (joined (λ k. b / 2 ^ k % 2)) b) refl v h)

byte_joined : (a : List ℕ) (i : ℕ) → get_or a i 0 < 256 → joined (λ k. bit a (8 * i + k)) ≡ get_or a i 0
unfolding bit
byte_joined a i h = same_joined (λ k. bit a (8 * i + k)) (λ k. get_or a i 0 / 2 ^ k % 2) at ∙ joined_bits (get_or a i 0) h
  where
    at : (k : ℕ) → k < 8 → bit a (8 * i + k) ≡ get_or a i 0 / 2 ^ k % 2
    at k g =
        let byte : (8 * i + k) / 8 ≡ i = omega arith in
        let place : (8 * i + k) % 8 ≡ k = omega arith in
        rw (byte, place)

-- answers of one length with the same bits are the same
pub same_bits : (a b : List ℕ) → Bytes a → Bytes b → length a ≡ length b → ((i : ℕ) → i < 8 * length a → bit a i ≡ bit b i) → a ≡ b
same_bits a b p q n same =
    ext_get_or 0 a b n
    (λ i h. sym (byte_joined a i (p i))
    ∙ same_joined (λ k. bit a (8 * i + k)) (λ k. bit b (8 * i + k)) (λ k g. same (8 * i + k) (omega arith))
    ∙ byte_joined b i (q i))

-- ---- the pairs of an answer's bits

pub bit_below : (a : List ℕ) (i : ℕ) → bit a i < 2
unfolding bit
bit_below a i = omega arith

-- the later unit of a bit's pair is the bit
pair_unit : (b : ℕ) → b < 2 → pair_of b % 2 ≡ b
unfolding pair_of
pair_unit zero h = refl
pair_unit (suc zero) h = refl
pair_unit (suc (suc b)) h = absurd (omega arith)

byte_at_joined : (t : List ℕ) (i : ℕ) → byte_at t i ≡ joined (λ k. bit_at t (8 * i + k))
unfolding byte_at
byte_at_joined t i = rw add-zero

byte_of_pairs : (t a : List ℕ) (i : ℕ) → get_or a i 0 < 256 → ((k : ℕ) → k < 8 → pair_at t (8 * i + k) ≡ pair_of (bit a (8 * i + k)))
    → byte_at t i ≡ get_or a i 0
byte_of_pairs t a i h pairs =
    byte_at_joined t i
    ∙ same_joined (λ k. bit_at t (8 * i + k)) (λ k. bit a (8 * i + k))
    (λ k g. rw (pairs k g) (pair_unit (bit a (8 * i + k)) (bit_below a (8 * i + k))))
    ∙ byte_joined a i h

bytes_from_are : (t l : List ℕ) (i : ℕ) → ((j : ℕ) → j < length l → byte_at t (i + j) ≡ get_or l j 0) → bytes_from t i (length l) ≡ l
unfolding bytes_from
bytes_from_are t [] i same = refl
bytes_from_are t (v ∷ l) i same =
    let here : byte_at t i ≡ v = rw add-zero at (same 0 (omega arith)) in
    ap₂ (λ (x : ℕ) (r : List ℕ). x ∷ r) here
    (bytes_from_are t l (suc i) (λ j h. ap (byte_at t) (next j) ∙ same (suc j) (omega arith)))
  where
    next : (j : ℕ) → suc i + j ≡ i + suc j
    next j = omega arith

pub reading_of_pairs : (t a : List ℕ) → Codable a → Framed (length a) t → ((i : ℕ) → i < 8 * length a → pair_at t i ≡ pair_of (bit a i))
    → reading t ≡ an_answer a
reading_of_pairs t a p f pairs =
    reading_answer (length a) t f (λ i h. rw (pairs i h) (pair_good (bit a i)))
    ∙ ap an_answer
    (bytes_from_are t a 0 (λ j h. rw zero-add (byte_of_pairs t a j (p.bytes j) (λ k g. pairs (8 * j + k) (omega arith)))))

pub framed_track : (a : List ℕ) → Codable a → Framed (length a) (answer_track a)
framed_track a p = record { least = p.least; most = p.most; long = length_track a; starts = track_start a; ends = track_end a }

pub reading_of_track : (a : List ℕ) → Codable a → reading (answer_track a) ≡ an_answer a
reading_of_track a p = reading_of_pairs (answer_track a) a p (framed_track a p) (λ i h. track_pair a i p.bytes h)
