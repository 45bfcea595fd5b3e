-- The bytes of n units, one unit after the other. By induction over the units. Assumes nothing.
use mathlib.Core.Path.{◌≡◌, refl, sym, ap, ◌∙◌}
use mathlib.Core.Bool.{true, ◌&&◌, and-eq-true_iff}
use Prim.Native.Nat.{ℕ, zero, suc, ◌+◌, ◌-◌, ◌*◌, ◌≤◌, ◌<◌}
use native.Mathlib.Nat.{mul-zero, zero-add}
use native.Mathlib.Numerals.{add-one}
use native.Mathlib.Omega.{arith}
use mathlib.Core.List.{List, [], ◌∷◌, ◌++◌, append-nil}
use borrow.Author.Tests.{ltb-true}
use lib.Dec.{ltb}
use lib.ListN.{length, take, drop, set, drop_of_length-le}
use lib.Seq.{drop-drop, length-take-le}
use Rattle.lent.specs.Lent.{over, placed}
use Rattle.lent.proofs.Over.{set_placed}
use Rattle.tracks.specs.Track.{unit}
use Rattle.tracks.specs.Steps.{byte_of, are_bytes, bytes_of}

-- one unit more is a byte
pub are_bytes_more : (coding n i at : ℕ) (t : List ℕ) → i < n
    → are_bytes coding (n - i) (drop at t) ≡ (ltb (byte_of coding (take (unit coding) (drop at t))) 256 && are_bytes coding (n - (i + 1)) (drop (at + unit coding) t))
unfolding are_bytes
are_bytes_more coding n i at t h =
    let left : n - i ≡ suc (n - (i + 1)) = omega arith in
    rw (left, drop-drop)

pub are_bytes_next : (coding n i at : ℕ) (t : List ℕ) → i < n → are_bytes coding (n - i) (drop at t) ≡ true
    → (byte_of coding (take (unit coding) (drop at t)) < 256) × (are_bytes coding (n - (i + 1)) (drop (at + unit coding) t) ≡ true)
are_bytes_next coding n i at t h e =
    let b : ℕ = byte_of coding (take (unit coding) (drop at t)) in
    let both = (and-eq-true_iff (ltb b 256) (are_bytes coding (n - (i + 1)) (drop (at + unit coding) t))).0 (sym (are_bytes_more coding n i at t h) ∙ e) in
    (ltb-true b 256 both.0, both.1)

pub are_bytes_none : (coding n i : ℕ) (t : List ℕ) → n ≤ i → are_bytes coding (n - i) t ≡ true
unfolding are_bytes
are_bytes_none coding n i t h =
    let none : n - i ≡ 0 = omega arith in
    rw none

pub length_bytes_of : (coding n : ℕ) (t : List ℕ) → length (bytes_of coding n t) ≡ n
unfolding bytes_of
length_bytes_of coding zero t = refl
length_bytes_of coding (suc n) t = ap suc (length_bytes_of coding n (drop (unit coding) t))

-- one byte more
bytes_of_suc : (coding i : ℕ) (t : List ℕ)
    → bytes_of coding (suc i) t ≡ bytes_of coding i t ++ byte_of coding (take (unit coding) (drop (unit coding * i) t)) ∷ []
unfolding bytes_of
bytes_of_suc coding zero t = rw mul-zero
bytes_of_suc coding (suc i) t =
    let place : unit coding + unit coding * i ≡ unit coding * suc i = omega arith in
    ap (λ (l : List ℕ). byte_of coding (take (unit coding) t) ∷ l) (bytes_of_suc coding i (drop (unit coding) t) ∙ rw (drop-drop, place))

-- and in the frame's buffer
pub placed_bytes_suc : (coding i : ℕ) (t e : List ℕ) → i < length e
    → set (placed 0 (bytes_of coding i (drop 1 t)) e) i (byte_of coding (take (unit coding) (drop (1 + unit coding * i) t)))
    ≡ placed 0 (bytes_of coding (i + 1) (drop 1 t)) e
placed_bytes_suc coding i t e h =
    let s : List ℕ = bytes_of coding i (drop 1 t) in
    let b : ℕ = byte_of coding (take (unit coding) (drop (1 + unit coding * i) t)) in
    let place : i ≡ 0 + length s = rw (length_bytes_of coding i (drop 1 t)) (omega arith) in
    ap (λ (k : ℕ). set (placed 0 s e) k b) place
    ∙ set_placed 0 s e b (rw (← place) h)
    ∙ rw (add-one, bytes_of_suc, drop-drop)

-- over the first n bytes of the buffer is over the buffer
pub over_part : (n : ℕ) (s e : List ℕ) → length s ≡ n → n ≤ length e → placed 0 s (take n e) ++ drop n e ≡ over s e
unfolding over placed
over_part n s e is h = rw (zero-add, is, drop_of_length-le (take n e) {i = n} (rw (length-take-le n e h) (omega arith)), append-nil)
