-- The byte of a unit, by the places of the track that the code reads. Assumes nothing.
use mathlib.Core.Path.{◌≡◌, sym, ◌∙◌}
use mathlib.Core.Bool.{true, false, false≢true, cond, ◌&&◌, and_assoc, and-eq-true_iff}
use Prim.Native.Nat.{ℕ, zero, suc, ◌+◌, ◌-◌, ◌*◌, ◌≤◌, ◌<◌}
use native.Mathlib.Nat.{add-zero, sub-zero, zero-sub, suc-sub-suc}
use native.Mathlib.Omega.{arith}
use mathlib.Core.List.{List, [], ◌∷◌}
use borrow.Author.Tests.{ne_eqb, lt-ltb, le-ltb, ltb-true}
use native.Mathlib.Decide.{dec_lt}
use Rattle.std.specs.Prelude.{Some, None}
use Rattle.std.proofs.lemmas.Option.{cond_some}
use Rattle.std.specs.Option.{is_some}
use lib.Dec.{eqb, ltb}
use lib.ListN.{length, get_or, take, drop, length-drop, get_or-eq_default}
use lib.Seq.{get_or-take, get_or-drop, take-nil, drop-drop, length-take-le}
use Rattle.tracks.specs.Steps.{pair_of, joined, zeros, lone, byte_of, byte_or_none}

-- a byte of the m bytes at a place
get_or_part : (t : List ℕ) (at m k : ℕ) → k < m → get_or (take m (drop at t)) k 0 ≡ get_or t (at + k) 0
get_or_part t at m k h = get_or-take m (drop at t) k 0 h ∙ get_or-drop at t k 0

drop_take : (n m : ℕ) (l : List ℕ) → drop n (take m l) ≡ take (m - n) (drop n l)
drop_take zero m l = rw sub-zero
drop_take (suc n) zero l = rw zero-sub
drop_take (suc n) (suc m) [] = sym (take-nil (suc m - suc n))
drop_take (suc n) (suc m) (x ∷ l) = rw suc-sub-suc (drop_take n m l)

pub quad_byte : (t : List ℕ) (at : ℕ)
    → byte_of 0 (take 4 (drop at t)) ≡ joined (pair_of (get_or t at 0)) (pair_of (get_or t (at + 1) 0)) (pair_of (get_or t (at + 2) 0)) (pair_of (get_or t (at + 3) 0))
unfolding byte_of
quad_byte t at =
    rw (get_or_part t at 4 0 (omega arith), add-zero, get_or_part t at 4 1 (omega arith), get_or_part t at 4 2 (omega arith), get_or_part t at 4 3 (omega arith))

module _ (t : List ℕ) (at : ℕ) (inside : at + 64 ≤ length t) where
  length_part : length (take 64 (drop at t)) ≡ 64
  length_part = length-take-le 64 (drop at t) (rw length-drop (omega arith))

  -- no byte but 00
  pub lone_blank : 64 ≤ zeros (take 64 (drop at t)) → 256 ≡ lone (take 64 (drop at t))
  unfolding lone pair_of
  lone_blank h = rw (get_or-eq_default (take 64 (drop at t)) 0 {n = zeros (take 64 (drop at t))} (rw length_part h))

  module _ (place : ℕ) (first : place ≡ zeros (take 64 (drop at t))) (found : place < 64) where
    -- by the first byte that is not 00, and what is past it
    pub lone_at : lone (take 64 (drop at t))
        ≡ cond (ltb (pair_of (get_or t (at + place) 0)) 4 && eqb (zeros (take (63 - place) (drop (at + place + 1) t))) (63 - place))
        (4 * place + pair_of (get_or t (at + place) 0))
        256
    unfolding lone
    lone_at =
        let past : 64 - suc place ≡ 63 - place = omega arith in
        let next : at + suc place ≡ at + place + 1 = omega arith in
        let rest : drop (suc place) (take 64 (drop at t)) ≡ take (63 - place) (drop (at + place + 1) t) =
        drop_take (suc place) 64 (drop at t) ∙ rw (past, drop-drop, next)
        in
        let left : length (take (63 - place) (drop (at + place + 1) t)) ≡ 63 - place =
        length-take-le (63 - place) (drop (at + place + 1) t) (rw length-drop (omega arith))
        in
        rw (← first, get_or_part t at 64 place found, rest, left)

-- by the coding
pub byte_of_4 : (coding : ℕ) (u : List ℕ) → coding ≡ 0 → byte_of coding u ≡ byte_of 0 u
byte_of_4 coding u e = rw e

pub byte_of_256 : (coding : ℕ) (u : List ℕ) → (coding ≡ 0 → ⊥) → byte_of coding u ≡ lone u
unfolding byte_of
byte_of_256 coding u e = rw (ne_eqb coding 0 e)

-- ---- a byte, or none

pub some_byte : (v : ℕ) → v < 256 → byte_or_none v ≡ Some v
unfolding byte_or_none
some_byte v h = rw (lt-ltb v 256 h)

pub none_byte : (v : ℕ) → 256 ≤ v → byte_or_none v ≡ None
unfolding byte_or_none
none_byte v h = rw (le-ltb v 256 h)

pub is_byte : (v : ℕ) {b : ℕ} → byte_or_none v ≡ Some b → (v < 256) × (v ≡ b)
unfolding byte_or_none
is_byte v {b} e =
    let both = cond_some (ltb v 256) v b e in
    (ltb-true v 256 both.0, both.1)

pub no_byte : (v : ℕ) → is_some (byte_or_none v) ≡ false → 256 ≤ v
unfolding byte_or_none
no_byte v e = go (dec_lt v 256)
  where
    go : Dec (v < 256) → 256 ≤ v
    go (yes h) = absurd (false≢true (sym e ∙ rw (lt-ltb v 256 h)))
    go (no h) = omega arith

pub some_is_byte : (v : ℕ) → is_some (byte_or_none v) ≡ true → v < 256
unfolding byte_or_none
some_is_byte v e = go (dec_lt v 256)
  where
    go : Dec (v < 256) → v < 256
    go (yes h) = h
    go (no h) = absurd (false≢true (rw (le-ltb v 256 (omega arith)) at e))

-- four pairs below 4
pub byte_of_pairs : (p q r s : ℕ) → (ltb p 4 && ltb q 4 && ltb r 4 && ltb s 4) ≡ true → Some (p + 4 * q + 16 * r + 64 * s) ≡ byte_or_none (joined p q r s)
unfolding joined
byte_of_pairs p q r s h =
    let three = (and-eq-true_iff _ _).0 h in
    let two = (and-eq-true_iff _ _).0 three.0 in
    let one = (and-eq-true_iff _ _).0 two.0 in
    let a : p < 4 = ltb-true p 4 one.0 in
    let b : q < 4 = ltb-true q 4 one.1 in
    let c : r < 4 = ltb-true r 4 two.1 in
    let d : s < 4 = ltb-true s 4 three.1 in
    rw (simp and_assoc at h) (sym (some_byte (p + 4 * q + 16 * r + 64 * s) (omega (arith, a, b, c, d))))

pub no_byte_of_pairs : (p q r s : ℕ) → (ltb p 4 && ltb q 4 && ltb r 4 && ltb s 4) ≡ false → None ≡ byte_or_none (joined p q r s)
unfolding joined byte_or_none
no_byte_of_pairs p q r s h = rw (simp and_assoc at h)
