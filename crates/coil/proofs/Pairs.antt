-- An answer's track byte by byte and pair by pair: its length, its start, its end, and between them the pair of each bit of the answer.
-- By the places of its bytes, and a test computed for each bit of each byte. Assumes nothing.
use mathlib.Core.Path.{◌≡◌, refl}
use mathlib.Core.Bool.{Bool, true, false, cond}
use Prim.Native.Nat.{ℕ, zero, suc, ◌+◌, ◌-◌, ◌*◌, ◌/◌, ◌%◌, ◌^◌, ◌≤◌, ◌<◌}
use native.Mathlib.Nat.{div-one}
use native.Mathlib.Numerals.{one-add}
use native.Mathlib.Omega.{arith}
use mathlib.Core.List.{List, [], ◌∷◌}
use borrow.Author.Tests.{eqb-true}
use lib.Dec.{eqb}
use lib.ListN.{length, get_or, length-append, get_or-append}
use lib.Seq.{get_or_at}
use Rattle.lent.specs.Bytes.{Bytes}
use Rattle.lent.proofs.Every.{every, every_at}
use Rattle.coil.specs.Track.{start, end, bit, pair_of, half, pulses, answer_track, answer_track_length}
use Rattle.coil.specs.Decoder.{pair_at}
use Rattle.coil.specs.Read.{Good, zero_bit, one_bit}

-- ---- the bytes between start and end

pub length_pulses : (a : List ℕ) → length (pulses a) ≡ 2 * length a
unfolding pulses
length_pulses [] = refl
length_pulses (v ∷ a) =
    let rest : length (pulses a) ≡ 2 * length a = length_pulses a in
    omega arith

-- two of each byte, its lower half first
pulses_byte : (a : List ℕ) (i : ℕ) → i < 2 * length a → get_or (pulses a) i 0 ≡ half (get_or a (i / 2) 0 / 16 ^ (i % 2))
unfolding pulses
pulses_byte [] i h = absurd (omega arith)
pulses_byte (v ∷ a) zero h = rw div-one
pulses_byte (v ∷ a) (suc zero) h = refl
pulses_byte (v ∷ a) (suc (suc i)) h =
    let place : suc (suc i) / 2 ≡ suc (i / 2) = omega arith in
    let side : suc (suc i) % 2 ≡ i % 2 = omega arith in
    rw (place, side) (pulses_byte a i (omega arith))

-- a bit's pair is good
pub pair_good : (b : ℕ) → Good (pair_of b)
unfolding pair_of
pair_good b = go (eqb b 0)
  where
    go : (t : Bool) → Good (cond t 2 1)
    go true = zero_bit
    go false = one_bit

pub good_range : {pair : ℕ} → Good pair → (1 ≤ pair) × (pair ≤ 2)
good_range zero_bit = (omega arith, omega arith)
good_range one_bit = (omega arith, omega arith)

-- ---- start and end around them

module _ (a : List ℕ) where
  pub length_track : length (answer_track a) ≡ answer_track_length (length a)
  unfolding answer_track
  length_track = rw (length-append (pulses a) (end ∷ []), length_pulses a) (omega arith)

  pub track_start : get_or (answer_track a) 0 0 ≡ start
  unfolding answer_track
  track_start = refl

  pub track_byte : (i : ℕ) → i < 2 * length a → get_or (answer_track a) (1 + i) 0 ≡ half (get_or a (i / 2) 0 / 16 ^ (i % 2))
  unfolding answer_track
  track_byte i h = rw (one-add i, get_or-append (pulses a) (end ∷ []) 0 i (rw (length_pulses a) h)) (pulses_byte a i h)

  pub track_end : get_or (answer_track a) (1 + 2 * length a) 0 ≡ end
  unfolding answer_track
  track_end = rw one-add (get_or_at (pulses a) end [] 0 (2 * length a) (length_pulses a))

-- ---- pair by pair

-- pair j of a byte's two
byte_pair : (v j : ℕ) → v < 256 → j < 8 → half (v / 16 ^ (j / 4)) / 2 ^ (6 - 2 * (j % 4)) % 4 ≡ pair_of (v / 2 ^ j % 2)
unfolding every half pair_of
byte_pair v j h g =
    eqb-true (half (v / 16 ^ (j / 4)) / 2 ^ (6 - 2 * (j % 4)) % 4) (pair_of (v / 2 ^ j % 2))
    (every_at 8 (same v) (every_at 256 (λ b. every 8 (same b)) refl v h) j g)
  where
    same : ℕ → ℕ → Bool
    same v j = eqb (half (v / 16 ^ (j / 4)) / 2 ^ (6 - 2 * (j % 4)) % 4) (pair_of (v / 2 ^ j % 2))

pub track_pair : (a : List ℕ) (i : ℕ) → Bytes a → i < 8 * length a → pair_at (answer_track a) i ≡ pair_of (bit a i)
unfolding pair_at bit
track_pair a i bs h =
    let byte : i / 4 / 2 ≡ i / 8 = omega arith in
    let side : i / 4 % 2 ≡ i % 8 / 4 = omega arith in
    let pair : i % 4 ≡ i % 8 % 4 = omega arith in
    rw (track_byte a (i / 4) (omega arith), byte, side, pair) (byte_pair (get_or a (i / 8) 0) (i % 8) (bs (i / 8)) (omega arith))

-- the end's second pair is 11
pub track_end_pair : (a : List ℕ) → pair_at (answer_track a) (8 * length a + 1) ≡ 3
unfolding pair_at
track_end_pair a =
    let place : (8 * length a + 1) / 4 ≡ 2 * length a = omega arith in
    let pair : (8 * length a + 1) % 4 ≡ 1 = omega arith in
    rw (place, pair, track_end a)
