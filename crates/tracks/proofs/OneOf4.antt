-- 1 of 4: a byte and its four track bytes, each read back from the other. The way there by a computed test, the way back pair by pair.
-- Assumes nothing.
use mathlib.Core.Path.{◌≡◌, refl, sym, ◌∙◌}
use mathlib.Core.Bool.{Bool, true, false, cond, ◌&&◌, and-eq-true_iff}
use Prim.Native.Nat.{ℕ, ◌+◌, ◌*◌, ◌/◌, ◌%◌, ◌<◌}
use native.Mathlib.Omega.{arith}
use mathlib.Core.List.{List, [], ◌∷◌}
use borrow.Author.Tests.{eqb-true, ltb-true}
use lib.Dec.{eqb, ltb}
use lib.ListN.{length}
use lib.Pow.{shr-shr}
use Rattle.lent.proofs.Every.{every, every_at}
use Rattle.tracks.specs.Track.{pattern, quad}
use Rattle.tracks.specs.Steps.{pair_of, joined, byte_of}
use Rattle.tracks.proofs.Patterns.{pattern_of_pair}

pub quad_read : (v : ℕ) → v < 256 → byte_of 0 (quad v) ≡ v
unfolding every byte_of joined pair_of quad pattern
quad_read v h = eqb-true (byte_of 0 (quad v)) v (every_at 256 (λ k. eqb (byte_of 0 (quad k)) k) refl v h)

-- four pairs that joined to a byte
record Pairs (p q r s v : ℕ) : Type 0 where
  a : p < 4
  b : q < 4
  c : r < 4
  d : s < 4
  sum : v ≡ p + 4 * q + 16 * r + 64 * s

pairs_of_joined : (p q r s : ℕ) → joined p q r s < 256 → Pairs p q r s (joined p q r s)
unfolding joined
pairs_of_joined p q r s h = go (ltb p 4 && (ltb q 4 && (ltb r 4 && ltb s 4))) refl h
  where
    go : (k : Bool) → (ltb p 4 && (ltb q 4 && (ltb r 4 && ltb s 4))) ≡ k → cond k (p + 4 * q + 16 * r + 64 * s) 256 < 256
        → Pairs p q r s (cond k (p + 4 * q + 16 * r + 64 * s) 256)
    go true e l =
        let x = (and-eq-true_iff (ltb p 4) (ltb q 4 && (ltb r 4 && ltb s 4))).0 e in
        let y = (and-eq-true_iff (ltb q 4) (ltb r 4 && ltb s 4)).0 x.1 in
        let z = (and-eq-true_iff (ltb r 4) (ltb s 4)).0 y.1 in
        record { a = ltb-true p 4 x.0; b = ltb-true q 4 y.0; c = ltb-true r 4 z.0; d = ltb-true s 4 z.1; sum = refl }
    go false e l = absurd (omega arith)

-- the lowest pair of a number, and the rest of it
digit : (v p m : ℕ) → p < 4 → v ≡ p + 4 * m → (v % 4 ≡ p) × (v / 4 ≡ m)
digit v p m h e = (omega arith, omega arith)

pub quad_write : (u : List ℕ) → length u ≡ 4 → byte_of 0 u < 256 → u ≡ quad (byte_of 0 u)
unfolding byte_of quad
quad_write [] n h = absurd (omega arith)
quad_write (a ∷ []) n h = absurd (omega arith)
quad_write (a ∷ b ∷ []) n h = absurd (omega arith)
quad_write (a ∷ b ∷ c ∷ []) n h = absurd (omega arith)
quad_write (a ∷ b ∷ c ∷ d ∷ []) n h = four a b c d (pairs_of_joined (pair_of a) (pair_of b) (pair_of c) (pair_of d) h)
  where
    four : (a b c d : ℕ) → Pairs (pair_of a) (pair_of b) (pair_of c) (pair_of d) (joined (pair_of a) (pair_of b) (pair_of c) (pair_of d))
        → a ∷ b ∷ c ∷ d ∷ [] ≡ quad (joined (pair_of a) (pair_of b) (pair_of c) (pair_of d))
    four a b c d p =
        let v : ℕ = joined (pair_of a) (pair_of b) (pair_of c) (pair_of d) in
        let w = digit v (pair_of a) (pair_of b + 4 * (pair_of c + 4 * pair_of d)) p.a (omega arith) in
        let x = digit (v / 4) (pair_of b) (pair_of c + 4 * pair_of d) p.b w.1 in
        let y = digit (v / 16) (pair_of c) (pair_of d) p.c (sym (shr-shr v 2 2) ∙ x.1) in
        let z = digit (v / 64) (pair_of d) 0 p.d (sym (shr-shr v 4 2) ∙ y.1 ∙ omega arith) in
        rw (w.0, x.0, y.0, z.0, pattern_of_pair a p.a, pattern_of_pair b p.b, pattern_of_pair c p.c, pattern_of_pair d p.d)
quad_write (a ∷ b ∷ c ∷ d ∷ e ∷ u) n h = absurd (omega arith)
