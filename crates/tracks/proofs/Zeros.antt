-- Bytes 00 at the start of a part of a track, counted byte by byte or several at once.
-- By the first byte of what is left. Assumes nothing.
use mathlib.Core.Path.{◌≡◌}
use mathlib.Core.Bool.{Bool, true, false, cond}
use Prim.Native.Nat.{ℕ, zero, suc, ◌+◌, ◌-◌, ◌≤◌, ◌<◌}
use native.Mathlib.Nat.{add-zero, zero-add}
use native.Mathlib.Omega.{arith}
use mathlib.Core.List.{List, [], ◌∷◌}
use borrow.Author.Tests.{eq-eqb, ne_eqb}
use lib.Dec.{eqb}
use lib.ListN.{length, get_or, take, drop}
use lib.Seq.{drop-cons}
use Rattle.tracks.specs.Steps.{zeros}

module _ (t : List ℕ) (at n i : ℕ) (more : i < n) (inside : at + n ≤ length t) where
  -- the rest of the n bytes from byte i on begins with that byte
  part_cons : take (n - i) (drop (at + i) t) ≡ get_or t (at + i) 0 ∷ take (n - (i + 1)) (drop (at + (i + 1)) t)
  part_cons =
      let left : n - i ≡ suc (n - (i + 1)) = omega arith in
      let next : suc (at + i) ≡ at + (i + 1) = omega arith in
      rw (left, drop-cons t (at + i) 0 (omega arith), next)

  pub zeros_more : get_or t (at + i) 0 ≡ 0 → zeros (take (n - i) (drop (at + i) t)) ≡ suc (zeros (take (n - (i + 1)) (drop (at + (i + 1)) t)))
  unfolding zeros
  zeros_more e = rw (part_cons, eq-eqb (get_or t (at + i) 0) 0 e)

  pub zeros_done : (get_or t (at + i) 0 ≡ 0 → ⊥) → zeros (take (n - i) (drop (at + i) t)) ≡ 0
  unfolding zeros
  zeros_done e = rw (part_cons, ne_eqb (get_or t (at + i) 0) 0 e)

pub zeros_most : (u : List ℕ) → zeros u ≤ length u
unfolding zeros
zeros_most [] = omega arith
zeros_most (b ∷ u) = go (eqb b 0) (zeros_most u)
  where
    go : (k : Bool) → zeros u ≤ length u → cond k (suc (zeros u)) 0 ≤ suc (length u)
    go true h = omega arith
    go false h = omega arith

pub zeros_none : (t : List ℕ) (at n i : ℕ) → n ≤ i → zeros (take (n - i) (drop (at + i) t)) ≡ 0
unfolding zeros
zeros_none t at n i h =
    let none : n - i ≡ 0 = omega arith in
    rw none

-- m bytes 00 passed at once
pub zeros_skip : (m : ℕ) (t : List ℕ) (at n i : ℕ) → i + m ≤ n → at + n ≤ length t → ((k : ℕ) → k < m → get_or t (at + i + k) 0 ≡ 0)
    → zeros (take (n - i) (drop (at + i) t)) ≡ m + zeros (take (n - (i + m)) (drop (at + (i + m)) t))
zeros_skip zero t at n i h inside blank = rw (add-zero, zero-add)
zeros_skip (suc m) t at n i h inside blank =
    let first : get_or t (at + i) 0 ≡ 0 = rw add-zero at (blank 0 (omega arith)) in
    let next : (k : ℕ) → at + i + suc k ≡ at + (i + 1) + k = λ k. omega arith in
    let past : i + 1 + m ≡ i + suc m = omega arith in
    let rest = zeros_skip m t at n (i + 1) (omega arith) inside (λ k l. rw (next k) at (blank (suc k) (omega arith))) in
    omega (arith, zeros_more t at n i (omega arith) inside first, rw past at rest)
