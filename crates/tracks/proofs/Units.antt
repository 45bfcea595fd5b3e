-- Units of a track: their lengths, and the stores that make them. Assumes nothing.
use mathlib.Core.Path.{◌≡◌, refl, sym, ap, ◌∙◌}
use mathlib.Core.Bool.{Bool, true, false, cond}
use Prim.Native.Nat.{ℕ, ◌+◌, ◌*◌, ◌/◌, ◌%◌, ◌≤◌, ◌<◌}
use native.Mathlib.Nat.{mul-zero, mul-suc, mul-le-mul_left, mul-le-mul_right}
use native.Mathlib.Numerals.{add-one}
use native.Mathlib.Omega.{arith}
use mathlib.Core.List.{List, [], ◌∷◌, ◌++◌, append_assoc, append-nil}
use borrow.Author.Tests.{eq-eqb, ne_eqb}
use lib.Dec.{eqb}
use lib.Seq.{length-take-le, take-suc, drop-drop}
use lib.ListN.{length, get_or, take, drop, set, replicate, length-append, length-set}
use Rattle.lent.specs.Lent.{placed}
use Rattle.lent.proofs.Over.{set_in_placed, placed_placed}
use Rattle.tracks.specs.Track.{pattern, quad, blank, long, coded, unit, pulses, track_of, track_length}

pub length_blank : length blank ≡ 64
unfolding blank
length_blank = refl

-- a blank unit in the place of as many bytes
pub placed_blank : (at k : ℕ) (v e : List ℕ) → k ≡ 64 → v ≡ replicate 64 0 → take at e ++ (v ++ drop k (drop at e)) ≡ placed at blank e
unfolding blank placed
placed_blank at k v e many zeros = rw (zeros, many, drop-drop 64 at e) (sym (append_assoc (take at e) (replicate 64 0) (drop (at + 64) e)))

-- the one byte that is not 00
pub placed_long : (at v : ℕ) (e : List ℕ) → v < 256 → at + 64 ≤ length e
    → set (placed at blank e) (at + v / 4) (pattern (v % 4)) ≡ placed at (long v) e
unfolding long
placed_long at v e b h = set_in_placed at blank e (v / 4) (pattern (v % 4)) (rw length_blank h) (rw length_blank (omega arith))

pub length_coded : (coding v : ℕ) → length (coded coding v) ≡ unit coding
unfolding coded unit quad long
length_coded coding v = go (eqb coding 0)
  where
    go : (t : Bool) → length (cond t (quad v) (long v)) ≡ cond t 4 64
    go true = refl
    go false = length-set blank (v / 4) (pattern (v % 4)) ∙ length_blank

pub length_pulses : (coding : ℕ) (frame : List ℕ) → length (pulses coding frame) ≡ unit coding * length frame
unfolding pulses
length_pulses coding [] = sym (mul-zero (unit coding))
length_pulses coding (v ∷ frame) =
    length-append (coded coding v) (pulses coding frame)
    ∙ rw (length_coded coding v, length_pulses coding frame, mul-suc) (omega arith)

-- by the coding
pub unit_of_4 : (coding : ℕ) → coding ≡ 0 → unit coding ≡ 4
unfolding unit
unit_of_4 coding e = rw (eq-eqb coding 0 e)

pub unit_of_256 : (coding : ℕ) → (coding ≡ 0 → ⊥) → unit coding ≡ 64
unfolding unit
unit_of_256 coding e = rw (ne_eqb coding 0 e)

pub coded_of_4 : (coding v : ℕ) → coding ≡ 0 → coded coding v ≡ quad v
unfolding coded
coded_of_4 coding v e = rw (eq-eqb coding 0 e)

pub coded_of_256 : (coding v : ℕ) → (coding ≡ 0 → ⊥) → coded coding v ≡ long v
unfolding coded
coded_of_256 coding v e = rw (ne_eqb coding 0 e)

pub unit_most : (coding : ℕ) → unit coding ≤ 64
unfolding unit
unit_most coding = go (eqb coding 0)
  where
    go : (t : Bool) → cond t 4 64 ≤ 64
    go true = omega arith
    go false = omega arith

pub pulses_append : (coding : ℕ) (a b : List ℕ) → pulses coding (a ++ b) ≡ pulses coding a ++ pulses coding b
unfolding pulses
pulses_append coding [] b = refl
pulses_append coding (v ∷ a) b = rw (pulses_append coding a b, append_assoc)

pulses_one : (coding v : ℕ) → pulses coding (v ∷ []) ≡ coded coding v
unfolding pulses
pulses_one coding v = append-nil (coded coding v)

pub length_track : (coding : ℕ) (frame : List ℕ) → length (track_of coding frame) ≡ track_length coding (length frame)
unfolding track_of
length_track coding frame = rw (length-append, length_pulses) (omega arith)

-- one byte of the frame more
pub placed_pulses_suc : (coding i : ℕ) (frame e : List ℕ) → i < length frame → 1 + unit coding * i + unit coding ≤ length e
    → placed (1 + unit coding * i) (coded coding (get_or frame i 0)) (placed 1 (pulses coding (take i frame)) e)
    ≡ placed 1 (pulses coding (take (i + 1) frame)) e
placed_pulses_suc coding i frame e h room =
    let s : List ℕ = pulses coding (take i frame) in
    let v : List ℕ = coded coding (get_or frame i 0) in
    let n : length s ≡ unit coding * i = length_pulses coding (take i frame) ∙ rw (length-take-le i frame (omega arith)) in
    let last : pulses coding (take (i + 1) frame) ≡ s ++ v =
    rw (add-one, take-suc frame i 0 h, pulses_append) (ap (λ (l : List ℕ). s ++ l) (pulses_one coding (get_or frame i 0)))
    in
    rw (last, ← n) (placed_placed 1 s v e (rw (n, length_coded) room))

-- a unit more has its place
pub unit_room : (coding i n m : ℕ) → i < n → 1 + unit coding * n ≤ m → 1 + unit coding * i + unit coding ≤ m
unit_room coding i n m h room = omega (arith, mul-le-mul_left (unit coding) h)

pub unit_next : (coding i : ℕ) → 1 + unit coding * i + unit coding ≡ 1 + unit coding * (i + 1)
unit_next coding i = omega arith

-- the units of n bytes
pub units_most : (coding n : ℕ) → unit coding * n ≤ 64 * n
units_most coding n = mul-le-mul_right n (unit_most coding)

pub unit_least : (coding : ℕ) → 4 ≤ unit coding
unfolding unit
unit_least coding = go (eqb coding 0)
  where
    go : (t : Bool) → 4 ≤ cond t 4 64
    go true = omega arith
    go false = omega arith
