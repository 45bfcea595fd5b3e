-- A test that antt computes at every number below n, and the rule that follows from it at each. Assumes nothing.
use mathlib.Core.Path.{◌≡◌}
use mathlib.Core.Bool.{Bool, true, ◌&&◌, and-eq-true_iff}
use Prim.Native.Nat.{ℕ, zero, suc, ◌<◌}
use native.Mathlib.Decide.{ℕ_discrete}
use native.Mathlib.Omega.{arith}

unfoldable pub every : ℕ → (ℕ → Bool) → Bool
every zero test = true
every (suc n) test = test n && every n test

pub every_at : (n : ℕ) (test : ℕ → Bool) → every n test ≡ true → (k : ℕ) → k < n → test k ≡ true
unfolding every
every_at zero test all k h = absurd (omega arith)
every_at (suc n) test all k h =
    let both = (and-eq-true_iff (test n) (every n test)).0 all in
    go (ℕ_discrete k n) both.0 (every_at n test both.1 k)
  where
    go : Dec (k ≡ n) → test n ≡ true → (k < n → test k ≡ true) → test k ≡ true
    go (yes e) here below = rw e here
    go (no e) here below = below (omega arith)
