-- The bytes that the decoder reads: each from two bytes of the track, one after the other. Assumes nothing.
use mathlib.Core.Path.{◌≡◌, refl, ap, ◌∙◌}
use Prim.Native.Nat.{ℕ, zero, suc, ◌+◌, ◌-◌, ◌*◌, ◌/◌, ◌%◌, ◌^◌, ◌≤◌, ◌<◌}
use native.Mathlib.Nat.{add-zero, zero-add, suc-add, div-one}
use native.Mathlib.Decide.{ℕ_discrete}
use native.Mathlib.Omega.{arith}
use mathlib.Core.List.{List, [], ◌∷◌, ◌++◌, append-nil, append_assoc}
use borrow.Rule.Slice.PartMut.{put_mid}
use lib.ListN.{length, get_or, set, drop_of_length-le}
use lib.Seq.{get_or-set_same, get_or-set_other, drop-drop}
use Rattle.std.specs.List.{between}
use Rattle.std.proofs.lemmas.List.Edits.{length-between}
use Rattle.lent.specs.Lent.{placed, over}
use Rattle.lent.proofs.Over.{set_placed, placed_placed, placed_start}
use Rattle.coil.specs.Decoder.{bit_at, byte_at, bytes_from}
use Rattle.coil.specs.Steps.{four_bits}
use Rattle.coil.proofs.Flaws.{pair_in_lem}

pub four_bits_most : (b : ℕ) → four_bits b ≤ 15
unfolding four_bits
four_bits_most b = omega arith

-- a byte's own four bits, and the next one's
bit_in : (t : List ℕ) (i q k : ℕ) → k ≡ 4 * i + q → q < 4 → bit_at t k ≡ get_or t (1 + i) 0 / 2 ^ (6 - 2 * q) % 2
bit_in t i q k is h =
    let b : ℕ = get_or t (1 + i) 0 / 2 ^ (6 - 2 * q) in
    let low : b % 4 % 2 ≡ b % 2 = omega arith in
    rw (is, pair_in_lem t i q h) low

four_in : (t : List ℕ) (i j k l m : ℕ) → j ≡ 4 * i → k ≡ 4 * i + 1 → l ≡ 4 * i + 2 → m ≡ 4 * i + 3
    → bit_at t j + 2 * bit_at t k + 4 * bit_at t l + 8 * bit_at t m ≡ four_bits (get_or t (1 + i) 0)
unfolding four_bits
four_in t i j k l m p q r s =
    rw (
      bit_in t i 0 j (omega arith) (omega arith),
      bit_in t i 1 k q (omega arith),
      bit_in t i 2 l r (omega arith),
      bit_in t i 3 m s (omega arith),
      div-one (get_or t (1 + i) 0),
    )

pub byte_of_fours : (t : List ℕ) (i : ℕ) → byte_at t i ≡ four_bits (get_or t (1 + 2 * i) 0) + 16 * four_bits (get_or t (1 + (2 * i + 1)) 0)
unfolding byte_at
byte_of_fours t i =
    let low = four_in t (2 * i) (8 * i) (8 * i + 1) (8 * i + 2) (8 * i + 3) (omega arith) (omega arith) (omega arith) (omega arith) in
    let high = four_in t (2 * i + 1) (8 * i + 4) (8 * i + 5) (8 * i + 6) (8 * i + 7) (omega arith) (omega arith) (omega arith) (omega arith) in
    rw (← low, ← high) (omega arith)

pub length_bytes_from : (t : List ℕ) (i n : ℕ) → length (bytes_from t i n) ≡ n
unfolding bytes_from
length_bytes_from t i zero = refl
length_bytes_from t i (suc n) = ap suc (length_bytes_from t (suc i) n)

pub byte_from : (t : List ℕ) (i n k : ℕ) → k < n → get_or (bytes_from t i n) k 0 ≡ byte_at t (i + k)
unfolding bytes_from
byte_from t i zero k h = absurd (omega arith)
byte_from t i (suc n) zero h = rw add-zero
byte_from t i (suc n) (suc k) h =
    let next : suc i + k ≡ i + suc k = omega arith in
    byte_from t (suc i) n k (omega arith) ∙ ap (byte_at t) next

-- n bytes, and m after them
bytes_from_more : (t : List ℕ) (i n m : ℕ) → bytes_from t i (n + m) ≡ bytes_from t i n ++ bytes_from t (i + n) m
unfolding bytes_from
bytes_from_more t i zero m = rw (zero-add, add-zero)
bytes_from_more t i (suc n) m =
    let next : suc i + n ≡ i + suc n = omega arith in
    rw (suc-add, ← next) (ap (λ (l : List ℕ). byte_at t i ∷ l) (bytes_from_more t (suc i) n m))

-- m bytes placed after the first i
pub placed_bytes_more : (t e : List ℕ) (i m : ℕ) → i + m ≤ length e
    → placed i (bytes_from t i m) (placed 0 (bytes_from t 0 i) e) ≡ placed 0 (bytes_from t 0 (i + m)) e
placed_bytes_more t e i m h =
    let s : List ℕ = bytes_from t 0 i in
    let v : List ℕ = bytes_from t i m in
    let seam : 0 + length s ≡ i = zero-add (length s) ∙ length_bytes_from t 0 i in
    let more : bytes_from t 0 (i + m) ≡ s ++ v = rw zero-add at (bytes_from_more t 0 i m) in
    rw more (rw seam at (placed_placed 0 s v e (omega (arith, length_bytes_from t 0 i, length_bytes_from t i m))))

-- one byte more, joined from two of the track, where the bytes from byte i on are placed at p
pub placed_bytes_suc : (t e : List ℕ) (p i j : ℕ) {place at after low high : ℕ} → place ≡ p + j → at ≡ 1 + 2 * (i + j) → after ≡ at + 1
    → low ≡ four_bits (get_or t at 0) → high ≡ four_bits (get_or t after 0) → place < length e
    → set (placed p (bytes_from t i j) e) place (low + 16 * high) ≡ placed p (bytes_from t i (j + 1)) e
unfolding bytes_from
placed_bytes_suc t e p i j {place} {at} {after} {low} {high} here first second lower upper h =
    let s : List ℕ = bytes_from t i j in
    let next : after ≡ 1 + (2 * (i + j) + 1) = omega arith in
    let joined : low + 16 * high ≡ byte_at t (i + j) = rw (lower, upper, next, first, ← byte_of_fours t (i + j)) in
    let last : bytes_from t i (j + 1) ≡ s ++ byte_at t (i + j) ∷ [] = bytes_from_more t i j 1 in
    let seam : place ≡ p + length s = omega (arith, length_bytes_from t i j) in
    rw (joined, last, seam) (set_placed p s e _ (omega arith))

-- bytes over all of a list, or of a part of one
whole : (s e : List ℕ) → length e ≡ length s → placed 0 s e ≡ s
unfolding over
whole s e h = placed_start s e ∙ rw (drop_of_length-le e {i = length s} (omega arith), append-nil)

part_placed : (at k : ℕ) (s e : List ℕ) → length s ≡ k → put_mid at k e s ≡ placed at s e
unfolding placed
part_placed at k s e is = rw (is, drop-drop, append_assoc) refl

pub bytes_in_part : (t e : List ℕ) (i n : ℕ) → i + n ≤ length e
    → put_mid i (i + n - i) e (placed 0 (bytes_from t i n) (between i (i + n) e)) ≡ placed i (bytes_from t i n) e
bytes_in_part t e i n h =
    let s : List ℕ = bytes_from t i n in
    let long : length s ≡ i + n - i = omega (arith, length_bytes_from t i n) in
    ap (put_mid i (i + n - i) e) (whole s (between i (i + n) e) (omega (arith, length-between e i (i + n) h))) ∙ part_placed i (i + n - i) s e long

-- the four bits of one byte more
pub fours_suc : (t fours : List ℕ) (at k : ℕ) → k < length fours → ((q : ℕ) → q < k → get_or fours q 0 ≡ four_bits (get_or t (at + q) 0))
    → (q : ℕ) → q < k + 1 → get_or (set fours k (four_bits (get_or t (at + k) 0))) q 0 ≡ four_bits (get_or t (at + q) 0)
fours_suc t fours at k room before q h = go (ℕ_discrete q k)
  where
    four : ℕ
    four = four_bits (get_or t (at + k) 0)

    go : Dec (q ≡ k) → get_or (set fours k four) q 0 ≡ four_bits (get_or t (at + q) 0)
    go (yes e) = rw e (get_or-set_same fours k four 0 room)
    go (no e) = rw (get_or-set_other fours k q four 0 e) (before q (omega arith))
