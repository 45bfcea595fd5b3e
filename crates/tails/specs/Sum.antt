-- Sums of numbers, over a stretch of numbers and over a list.
use Rattle.std.specs.Prelude.{ℕ, zero, suc, ◌+◌, Bool, true, false, List, [], ◌∷◌, eqb}

-- f t + f (t + 1) + .., n terms
unfoldable pub tot : ℕ → ℕ → (ℕ → ℕ) → ℕ
tot zero t f = 0
tot (suc n) t f = f t + tot n (suc t) f

-- 1 where a test holds
unfoldable pub one : Bool → ℕ
one true = 1
one false = 0

-- v u for each u of a list
unfoldable pub tally : (ℕ → ℕ) → List ℕ → ℕ
tally v [] = 0
tally v (u ∷ us) = v u + tally v us

-- how often u stands in a list
unfoldable pub times : ℕ → List ℕ → ℕ
times u us = tally (λ x. one (eqb x u)) us
