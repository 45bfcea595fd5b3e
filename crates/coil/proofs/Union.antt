-- Tracks laid over each other: unit by unit the union of their pulses, as long as the longest, with the start and the end of an answer's track.
-- By the laws of bitwise or. Assumes nothing.
use mathlib.Core.Path.{◌≡◌, refl, sym, ap, ap₂, ◌∙◌}
use Prim.Native.Nat.{ℕ, zero, suc, ◌+◌, ◌-◌, ◌*◌, ◌/◌, ◌%◌, ◌^◌, ◌≤◌, ◌<◌, max}
use native.Mathlib.Nat.{suc-max-suc, max-zero, zero-max}
use native.Mathlib.Decide.{dec_lt}
use native.Mathlib.Omega.{arith}
use mathlib.Core.List.{List, [], ◌∷◌}
use lib.Bits.{bit_or, or_zero_l, or_zero_r, or_add_and, and_le_l, and_le_r, or_self, or_shr, or_mod}
use lib.ListN.{length, get_or, get_or-eq_default}
use Rattle.coil.specs.Track.{start, end, bit, answer_track}
use Rattle.coil.specs.Decoder.{pair_at}
use Rattle.coil.specs.Read.{Framed}
use Rattle.coil.specs.Overlay.{overlay, on_coil, Answers, none, more}
use Rattle.coil.proofs.Pairs.{good_range, pair_good, track_pair}
use Rattle.coil.proofs.RoundTrip.{framed_track}

-- ---- byte by byte and pair by pair

pub overlay_none : (x : List ℕ) → overlay x [] ≡ x
unfolding overlay
overlay_none [] = refl
overlay_none (a ∷ x) = refl

pub overlay_self : (x : List ℕ) → overlay x x ≡ x
unfolding overlay
overlay_self [] = refl
overlay_self (a ∷ x) = ap₂ (λ (b : ℕ) (y : List ℕ). b ∷ y) (or_self a) (overlay_self x)

length_overlay : (x y : List ℕ) → length (overlay x y) ≡ max (length x) (length y)
unfolding overlay
length_overlay [] y = sym (zero-max (length y))
length_overlay (a ∷ x) [] = sym (max-zero (length (a ∷ x)))
length_overlay (a ∷ x) (b ∷ y) = ap suc (length_overlay x y) ∙ sym (suc-max-suc (length x) (length y))

get_or_overlay : (x y : List ℕ) (i : ℕ) → get_or (overlay x y) i 0 ≡ bit_or (get_or x i 0) (get_or y i 0)
unfolding overlay
get_or_overlay [] y i = sym (or_zero_l (get_or y i 0))
get_or_overlay (a ∷ x) [] i = sym (or_zero_r (get_or (a ∷ x) i 0))
get_or_overlay (a ∷ x) (b ∷ y) zero = refl
get_or_overlay (a ∷ x) (b ∷ y) (suc i) = get_or_overlay x y i

pub pair_overlay : (x y : List ℕ) (i : ℕ) → pair_at (overlay x y) i ≡ bit_or (pair_at x i) (pair_at y i)
unfolding pair_at
pair_overlay x y i =
    let at : ℕ = 1 + i / 4 in
    let k : ℕ = 6 - 2 * (i % 4) in
    rw (get_or_overlay x y at, or_shr (get_or x at 0) (get_or y at 0) k) (or_mod (get_or x at 0 / 2 ^ k) (get_or y at 0 / 2 ^ k) 2)

-- what one track has, the union has
pub or_least_l : (a b : ℕ) → a ≤ bit_or a b
or_least_l a b = omega (arith, or_add_and a b, and_le_r a b)

pub or_least_r : (a b : ℕ) → b ≤ bit_or a b
or_least_r a b = omega (arith, or_add_and a b, and_le_l a b)

-- ---- start, end and length

past_framed : (n k : ℕ) (t : List ℕ) → Framed n t → n < k → get_or t (1 + 2 * k) 0 ≡ 0
past_framed n k t p h = get_or-eq_default t 0 (omega (arith, p.long))

framed_overlay : (m n : ℕ) (x y : List ℕ) → Framed m x → Framed n y → Framed (max m n) (overlay x y)
framed_overlay m n x y p q =
    record {
      least = omega (arith, p.least);
      most = omega (arith, p.most, q.most);
      long = length_overlay x y ∙ omega (arith, p.long, q.long);
      starts = get_or_overlay x y 0 ∙ rw (p.starts, q.starts) (or_self start);
      ends = get_or_overlay x y (1 + 2 * max m n) ∙ last (dec_lt m n) (dec_lt n m);
    }
  where
    last : Dec (m < n) → Dec (n < m) → bit_or (get_or x (1 + 2 * max m n) 0) (get_or y (1 + 2 * max m n) 0) ≡ end
    last (yes h) g =
        let k : max m n ≡ n = omega arith in
        rw (k, past_framed m n x p h, q.ends) (or_zero_l end)
    last (no h) (yes g) =
        let k : max m n ≡ m = omega arith in
        rw (k, past_framed n m y q g, p.ends) (or_zero_r end)
    last (no h) (no g) =
        let k : max m n ≡ m = omega arith in
        let same : n ≡ m = omega arith in
        rw (k, p.ends, rw same at q.ends) (or_self end)

-- the greatest length of several answers
abbrev pub greatest : List (List ℕ) → ℕ
greatest [] = 0
greatest (r ∷ rs) = max (length r) (greatest rs)

pub framed_coil : (a : List ℕ) (rs : List (List ℕ)) → Answers (a ∷ rs) → Framed (greatest (a ∷ rs)) (on_coil (a ∷ rs))
unfolding on_coil
framed_coil a [] (more p none) = rw (max-zero (length a), overlay_none (answer_track a)) (framed_track a p)
framed_coil a (b ∷ rs) (more p ps) =
    framed_overlay (length a) (greatest (b ∷ rs)) (answer_track a) (on_coil (b ∷ rs)) (framed_track a p) (framed_coil b rs ps)

-- no pair of it is 00
pub coil_not_lost : (rs : List (List ℕ)) → Answers rs → (i : ℕ) → i < 8 * greatest rs → 1 ≤ pair_at (on_coil rs) i
unfolding on_coil
coil_not_lost [] none i h = absurd (omega arith)
coil_not_lost (r ∷ rs) (more p ps) i h = rw (pair_overlay (answer_track r) (on_coil rs) i) (go (dec_lt i (8 * length r)) (coil_not_lost rs ps i))
  where
    x : ℕ
    x = pair_at (answer_track r) i

    y : ℕ
    y = pair_at (on_coil rs) i

    go : Dec (i < 8 * length r) → (i < 8 * greatest rs → 1 ≤ y) → 1 ≤ bit_or x y
    go (yes g) rest =
        let here : 1 ≤ x = rw (track_pair r i p.bytes g) (good_range (pair_good (bit r i))).0 in
        omega (arith, or_least_l x y)
    go (no g) rest =
        let past : 1 ≤ y = rest (omega arith) in
        omega (arith, or_least_r x y)
