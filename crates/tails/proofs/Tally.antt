-- Laws of sums over a list. By induction over the list.
-- Assumes nothing.
use mathlib.Core.Path.{◌≡◌, refl, sym, ap, ap₂, ◌∙◌}
use mathlib.Core.Bool.{Bool, true, false, cond}
use Prim.Native.Nat.{ℕ, ◌+◌, ◌*◌, ◌%◌, ◌^◌, ◌≤◌}
use native.Mathlib.Omega.{arith}
use mathlib.Core.List.{List, [], ◌∷◌, ◌++◌}
use borrow.Author.Tests.{eq-eqb}
use lib.Dec.{eqb}
use lib.ListN.{length}
use Rattle.tails.specs.Sum.{tot, one, tally, times}
use Rattle.tails.specs.Tails.{ending}
use Rattle.tails.proofs.Sums.{tot_zero, tot_add}

pub tally_append : (v : ℕ → ℕ) (us vs : List ℕ) → tally v (us ++ vs) ≡ tally v us + tally v vs
unfolding tally
tally_append v [] vs = omega arith
tally_append v (u ∷ us) vs =
    let rest : tally v (us ++ vs) ≡ tally v us + tally v vs = tally_append v us vs in
    omega arith

pub tally_cong : (v w : ℕ → ℕ) (us : List ℕ) → ((u : ℕ) → v u ≡ w u) → tally v us ≡ tally w us
unfolding tally
tally_cong v w [] h = refl
tally_cong v w (u ∷ us) h = ap₂ (λ (a b : ℕ). a + b) (h u) (tally_cong v w us h)

-- two weights that are alike on the UIDs of the list
pub tally_cong_in : (v w : ℕ → ℕ) (us : List ℕ) → ((u : ℕ) → 1 ≤ times u us → v u ≡ w u) → tally v us ≡ tally w us
unfolding tally times one
tally_cong_in v w [] h = refl
tally_cong_in v w (u ∷ us) h =
    ap₂ (λ (a b : ℕ). a + b) (h u (rw (eq-eqb u u refl) (omega arith))) (tally_cong_in v w us (λ x g. h x (omega (arith, g))))

pub tally_le : (v w : ℕ → ℕ) (us : List ℕ) → ((u : ℕ) → v u ≤ w u) → tally v us ≤ tally w us
unfolding tally
tally_le v w [] h = omega arith
tally_le v w (u ∷ us) h =
    let here : v u ≤ w u = h u in
    let rest : tally v us ≤ tally w us = tally_le v w us h in
    omega arith

pub tally_zero : (us : List ℕ) → tally (λ u. 0) us ≡ 0
unfolding tally
tally_zero [] = refl
tally_zero (u ∷ us) = rw (tally_zero us)

pub tally_one : (us : List ℕ) → tally (λ u. 1) us ≡ length us
unfolding tally
tally_one [] = refl
tally_one (u ∷ us) =
    let rest : tally (λ u. 1) us ≡ length us = tally_one us in
    omega arith

-- a tally of sums is the sum of tallies
pub tally_tot : (n t : ℕ) (f : ℕ → ℕ → ℕ) (us : List ℕ) → tally (λ u. tot n t (λ i. f i u)) us ≡ tot n t (λ i. tally (f i) us)
unfolding tally
tally_tot n t f [] = sym (tot_zero n t (λ i. 0) (λ i p q. refl))
tally_tot n t f (u ∷ us) =
    ap (λ (r : ℕ). tot n t (λ i. f i u) + r) (tally_tot n t f us)
    ∙ sym (tot_add n t (λ i. f i u) (λ i. tally (f i) us))

-- those that end in m weigh what the test lets through
pub tally_ending : (v : ℕ → ℕ) (j m : ℕ) (us : List ℕ) → tally v (ending j m us) ≡ tally (λ u. one (eqb (u % 16 ^ j) m) * v u) us
unfolding tally ending one
tally_ending v j m [] = refl
tally_ending v j m (u ∷ us) = go (eqb (u % 16 ^ j) m) (tally_ending v j m us)
  where
    go : (b : Bool) → tally v (ending j m us) ≡ tally (λ u. one (eqb (u % 16 ^ j) m) * v u) us
        → tally v (cond b (u ∷ ending j m us) (ending j m us)) ≡ one b * v u + tally (λ u. one (eqb (u % 16 ^ j) m) * v u) us
    go true rest = omega arith
    go false rest = omega arith

pub length_ending : (j m : ℕ) (us : List ℕ) → length (ending j m us) ≡ tally (λ u. one (eqb (u % 16 ^ j) m)) us
length_ending j m us =
    sym (tally_one (ending j m us))
    ∙ tally_ending (λ u. 1) j m us
    ∙ tally_cong (λ u. one (eqb (u % 16 ^ j) m) * 1) (λ u. one (eqb (u % 16 ^ j) m)) us (λ u. omega arith)

-- at most all of them
pub length_ending_le : (j m : ℕ) (us : List ℕ) → length (ending j m us) ≤ length us
unfolding one
length_ending_le j m us = rw (length_ending j m us, ← tally_one us) (tally_le (λ u. one (eqb (u % 16 ^ j) m)) (λ u. 1) us (λ u. most (eqb (u % 16 ^ j) m)))
  where
    most : (b : Bool) → one b ≤ 1
    most true = omega arith
    most false = omega arith
