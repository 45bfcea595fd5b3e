-- 1 of 256: a byte and its 64 track bytes, each read back from the other. By the place of the one byte that is not 00.
-- Assumes nothing.
use mathlib.Core.Path.{◌≡◌, refl, sym, ap, ap₂, ◌∙◌}
use mathlib.Core.Bool.{Bool, true, false, cond, ◌&&◌, and-eq-true_iff}
use Prim.Native.Nat.{ℕ, zero, suc, ◌+◌, ◌*◌, ◌/◌, ◌%◌, ◌≤◌, ◌<◌}
use native.Mathlib.Decide.{dec_lt}
use native.Mathlib.Omega.{arith}
use mathlib.Core.List.{List, [], ◌∷◌}
use borrow.Author.Tests.{eq-eqb, ne_eqb, eqb-true, lt-ltb, ltb-true}
use lib.Dec.{eqb, ltb}
use lib.ListN.{length, get_or, drop, set, replicate, length-replicate, get_or-eq_default}
use lib.Seq.{get_or-set_same, drop-set-lt}
use Rattle.tracks.specs.Track.{pattern, blank, long}
use Rattle.tracks.specs.Steps.{pair_of, zeros, lone}
use Rattle.tracks.proofs.Patterns.{pair_of_pattern, pattern_of_pair}
use Rattle.tracks.proofs.Zeros.{zeros_most}

zeros_replicate : (n : ℕ) → zeros (replicate n 0) ≡ n
unfolding zeros
zeros_replicate zero = refl
zeros_replicate (suc n) = ap suc (zeros_replicate n)

replicate_of_zeros : (u : List ℕ) → zeros u ≡ length u → u ≡ replicate (length u) 0
unfolding zeros
replicate_of_zeros [] e = refl
replicate_of_zeros (b ∷ u) e = go (eqb b 0) refl e (replicate_of_zeros u)
  where
    go : (k : Bool) → eqb b 0 ≡ k → cond k (suc (zeros u)) 0 ≡ suc (length u) → (zeros u ≡ length u → u ≡ replicate (length u) 0)
        → b ∷ u ≡ 0 ∷ replicate (length u) 0
    go true f g r = ap₂ (λ (x : ℕ) (l : List ℕ). x ∷ l) (eqb-true b 0 f) (r (omega arith))
    go false f g r = absurd (omega arith)

-- one byte that is not 00 among n
zeros_set : (n k b : ℕ) → k < n → (b ≡ 0 → ⊥) → zeros (set (replicate n 0) k b) ≡ k
unfolding zeros
zeros_set zero k b h e = absurd (omega arith)
zeros_set (suc n) zero b h e = rw (ne_eqb b 0 e)
zeros_set (suc n) (suc k) b h e = ap suc (zeros_set n k b (omega arith) e)

zero_first : (b : ℕ) (u : List ℕ) (k : ℕ) → zeros (b ∷ u) ≡ suc k → (b ≡ 0) × (zeros u ≡ k)
unfolding zeros
zero_first b u k z = go (eqb b 0) refl z
  where
    go : (t : Bool) → eqb b 0 ≡ t → cond t (suc (zeros u)) 0 ≡ suc k → (b ≡ 0) × (zeros u ≡ k)
    go true f g = (eqb-true b 0 f, omega arith)
    go false f g = absurd (omega arith)

-- a list that is 00 but for one byte, by the place of that byte
split_zeros : (u : List ℕ) (n k : ℕ) → length u ≡ n → zeros u ≡ k → k < n → zeros (drop (suc k) u) ≡ length (drop (suc k) u)
    → u ≡ set (replicate n 0) k (get_or u k 0)
unfolding zeros
split_zeros [] n k l z h e = absurd (omega arith)
split_zeros (b ∷ u) zero k l z h e = absurd (omega arith)
split_zeros (b ∷ u) (suc n) zero l z h e =
    let m : length u ≡ n = omega arith in
    ap (λ (r : List ℕ). b ∷ r) (replicate_of_zeros u e ∙ ap (λ (i : ℕ). replicate i 0) m)
split_zeros (b ∷ u) (suc n) (suc k) l z h e =
    let first = zero_first b u k z in
    ap₂ (λ (x : ℕ) (r : List ℕ). x ∷ r) first.0 (split_zeros u n k (omega arith) first.1 (omega arith) e)

-- past the one byte all is 00
abbrev nothing : ℕ → List ℕ
nothing n = replicate n 0

zeros_past : (j n : ℕ) → zeros (drop j (nothing n)) ≡ length (drop j (nothing n))
unfolding zeros
zeros_past zero n = zeros_replicate n ∙ sym (length-replicate n 0)
zeros_past (suc j) zero = refl
zeros_past (suc j) (suc n) = zeros_past j n

-- a byte with a pair is not 00
pair_of_zero : pair_of 0 ≡ 4
unfolding pair_of
pair_of_zero = refl

pause_of_pair : (b : ℕ) → pair_of b < 4 → b ≡ 0 → ⊥
pause_of_pair b h e =
    let none : pair_of b ≡ 4 = ap pair_of e ∙ pair_of_zero in
    omega arith

-- what `lone` is where its tests hold, and that they hold where it is a byte
lone_by : (u : List ℕ) (k p : ℕ) → zeros u ≡ k → pair_of (get_or u k 0) ≡ p → zeros (drop (suc k) u) ≡ length (drop (suc k) u) → p < 4 → lone u ≡ 4 * k + p
unfolding lone
lone_by u k p place pair rest h =
    rw (place, pair, lt-ltb p 4 h, eq-eqb (zeros (drop (suc k) u)) (length (drop (suc k) u)) rest)

record Lone (u : List ℕ) : Type 0 where
  pair : pair_of (get_or u (zeros u) 0) < 4
  rest : zeros (drop (suc (zeros u)) u) ≡ length (drop (suc (zeros u)) u)
  value : lone u ≡ 4 * zeros u + pair_of (get_or u (zeros u) 0)

lone_of : (u : List ℕ) → lone u < 256 → Lone u
unfolding lone
lone_of u h = go (ltb p 4 && eqb z l) refl h
  where
    p : ℕ
    p = pair_of (get_or u (zeros u) 0)

    z : ℕ
    z = zeros (drop (suc (zeros u)) u)

    l : ℕ
    l = length (drop (suc (zeros u)) u)

    go : (t : Bool) → (ltb p 4 && eqb z l) ≡ t → cond t (4 * zeros u + p) 256 < 256 → Lone u
    go true e k =
        let both = (and-eq-true_iff (ltb p 4) (eqb z l)).0 e in
        let rest : z ≡ l = eqb-true z l both.1 in
        let pair : p < 4 = ltb-true p 4 both.0 in
        record { pair = pair; rest = rest; value = lone_by u (zeros u) p refl refl rest pair }
    go false e k = absurd (omega arith)

within : (u : List ℕ) → length u ≡ 64 → pair_of (get_or u (zeros u) 0) < 4 → zeros u < 64
within u n h = go (dec_lt (zeros u) 64)
  where
    go : Dec (zeros u < 64) → zeros u < 64
    go (yes k) = k
    go (no k) =
        let past : length u ≤ zeros u = omega arith in
        let none : get_or u (zeros u) 0 ≡ 0 = get_or-eq_default u 0 past in
        absurd (pause_of_pair (get_or u (zeros u) 0) h none)

pub long_read : (v : ℕ) → v < 256 → lone (long v) ≡ v
unfolding lone long blank
long_read v h =
    let k : ℕ = v / 4 in
    let b : ℕ = pattern (v % 4) in
    let u : List ℕ = set (nothing 64) k b in
    let pair : pair_of b ≡ v % 4 = pair_of_pattern (v % 4) (omega arith) in
    let place : zeros u ≡ k = zeros_set 64 k b (omega arith) (pause_of_pair b (rw pair (omega arith))) in
    let there : get_or u k 0 ≡ b = get_or-set_same (nothing 64) k b 0 (omega arith) in
    let past : drop (suc k) u ≡ drop (suc k) (nothing 64) = drop-set-lt (suc k) (nothing 64) k b (omega arith) in
    lone_by u k (v % 4) place (ap pair_of there ∙ pair) (rw past (zeros_past (suc k) 64)) (omega arith) ∙ omega arith

pub long_write : (u : List ℕ) → length u ≡ 64 → lone u < 256 → u ≡ long (lone u)
unfolding long blank
long_write u n h =
    let k : ℕ = zeros u in
    let got : Lone u = lone_of u h in
    let most : k ≤ length u = zeros_most u in
    let inside : k < 64 = within u n got.pair in
    let whole : u ≡ set (nothing 64) k (get_or u k 0) = split_zeros u 64 k n refl inside got.rest in
    let high : lone u / 4 ≡ k = omega arith in
    let low : lone u % 4 ≡ pair_of (get_or u k 0) = omega arith in
    rw (high, low, pattern_of_pair (get_or u k 0) got.pair) whole
