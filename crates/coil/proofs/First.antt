-- Laws of `first_from`: where the number that it gives lies, that the test holds there and that it fails before; no other number is so.
-- By induction over how many numbers are tried. Assumes nothing.
use mathlib.Core.Path.{◌≡◌, refl, sym, ◌∙◌}
use mathlib.Core.Bool.{Bool, true, false, cond, false≢true}
use Prim.Native.Nat.{ℕ, zero, suc, ◌+◌, ◌≤◌, ◌<◌}
use native.Mathlib.Decide.{dec_lt, ℕ_discrete}
use native.Mathlib.Omega.{arith}
use borrow.Author.Tests.{lt-ltb, le-ltb, ltb-true}
use lib.Dec.{ltb}
use Rattle.std.specs.Prelude.{Some, None}
use Rattle.std.proofs.lemmas.Option.{cond_some, none-some}
use Rattle.coil.specs.Steps.{found_in}
use Rattle.coil.specs.Decoder.{first_from}

-- k is the first of the n numbers from i on at which a test holds, or the number after them
pub record First (test : ℕ → Bool) (i n k : ℕ) : Type 0 where
  pub least : i ≤ k
  pub most : k ≤ i + n
  pub holds : k < i + n → test k ≡ true
  pub fails : (j : ℕ) → i ≤ j → j < k → test j ≡ false

pub first_from_lem : (test : ℕ → Bool) (i n : ℕ) → First test i n (first_from test i n)
unfolding first_from
first_from_lem test i zero = record { least = omega arith; most = omega arith; holds = λ h. absurd (omega arith); fails = λ j h g. absurd (omega arith) }
first_from_lem test i (suc n) = go (test i) refl (first_from_lem test (suc i) n)
  where
    go : (b : Bool) → test i ≡ b → First test (suc i) n (first_from test (suc i) n) → First test i (suc n) (cond b i (first_from test (suc i) n))
    go true e rest = record { least = omega arith; most = omega arith; holds = λ h. e; fails = λ j h g. absurd (omega arith) }
    go false e rest =
        record {
          least = omega arith;
          most = omega arith;
          holds = λ h. rest.holds (omega arith);
          fails = λ j h g. before j h g (ℕ_discrete j i);
        }
      where
        before : (j : ℕ) → i ≤ j → j < first_from test (suc i) n → Dec (j ≡ i) → test j ≡ false
        before j h g (yes here) = rw here e
        before j h g (no past) = rest.fails j (omega arith) g

-- and no other number is
pub first_is : {test : ℕ → Bool} {i n k : ℕ} → First test i n k → first_from test i n ≡ k
first_is {test} {i} {n} {k} p = go (dec_lt f k) (dec_lt k f)
  where
    f : ℕ
    f = first_from test i n

    q : First test i n f
    q = first_from_lem test i n

    go : Dec (f < k) → Dec (k < f) → f ≡ k
    go (yes h) e = absurd (false≢true (sym (p.fails f q.least h) ∙ q.holds (omega arith)))
    go (no h) (yes g) = absurd (false≢true (sym (q.fails k p.least g) ∙ p.holds (omega (arith, q.most))))
    go (no h) (no g) = omega arith

-- a test that fails at each of them
pub first_none : (test : ℕ → Bool) (i n : ℕ) → ((j : ℕ) → i ≤ j → j < i + n → test j ≡ false) → first_from test i n ≡ i + n
first_none test i n all = first_is (record { least = omega arith; most = omega arith; holds = λ h. absurd (omega arith); fails = all })

-- ---- a first number, where there is one

pub found_below : (n k : ℕ) → k < n → Some k ≡ found_in n k
unfolding found_in
found_below n k h = rw (lt-ltb k n h)

pub found_none : (n k : ℕ) → n ≤ k → None ≡ found_in n k
unfolding found_in
found_none n k h = rw (le-ltb k n h)

pub found_is : (n k j : ℕ) → Some j ≡ found_in n k → (j ≡ k) × (k < n)
unfolding found_in
found_is n k j is =
    let both = cond_some (ltb k n) k j (sym is) in
    (sym both.1, ltb-true k n both.0)

pub none_found : (n k : ℕ) → None ≡ found_in n k → n ≤ k
none_found n k is = go (dec_lt k n)
  where
    go : Dec (k < n) → n ≤ k
    go (yes h) = absurd (none-some k (is ∙ sym (found_below n k h)))
    go (no h) = omega arith
