-- The weights that lie ahead of a walk: of the UIDs that end in a tail, and of the shared tails that do.
-- Each is parted by the sixteen slots of a round. Assumes nothing.
use mathlib.Core.Path.{◌≡◌, refl, sym, ◌∙◌}
use Prim.Native.Nat.{ℕ, suc, ◌+◌, ◌-◌, ◌^◌, ◌<◌}
use native.Mathlib.Omega.{arith}
use mathlib.Core.List.{List}
use Rattle.tails.specs.Sum.{one, tally}
use Rattle.tails.specs.Tails.{ending, is_shared, shared_tails_to}
use Rattle.tails.proofs.Parts.{ending_all, ending_parts}
use Rattle.tails.proofs.Below.{below, below_all}
use Rattle.field.proofs.Ahead.{to_hear}

-- a weight v of the UIDs that end in m
unfoldable pub weigh : (ℕ → ℕ) → List ℕ → ℕ → ℕ → ℕ
weigh v us j m = tally v (ending j m us)

pub weigh_parts : (v : ℕ → ℕ) (us : List ℕ) (j m : ℕ) → m < 16 ^ j → to_hear (weigh v us) j m 0 ≡ weigh v us j m
unfolding weigh to_hear
weigh_parts v us j m h = sym (ending_parts v us j m h)

weigh_all : (v : ℕ → ℕ) (us : List ℕ) → weigh v us 0 0 ≡ tally v us
unfolding weigh
weigh_all v us = rw ending_all

pub weigh_start : (v : ℕ → ℕ) (us : List ℕ) → to_hear (weigh v us) 0 0 0 ≡ tally v us
weigh_start v us = weigh_parts v us 0 0 (omega arith) ∙ weigh_all v us

-- the shared tails of fewer digits than levels that end in m
unfoldable pub below_at : ℕ → List ℕ → ℕ → ℕ → ℕ
below_at levels us j m = below us (levels - j) j m

pub below_parts : (levels : ℕ) (us : List ℕ) (j m : ℕ) → j < levels → below_at levels us j m ≡ one (is_shared us j m) + to_hear (below_at levels us) j m 0
unfolding below_at to_hear below
below_parts levels us j m h =
    let more : levels - j ≡ suc (levels - suc j) = omega arith in
    rw more refl

pub below_start : (levels : ℕ) (us : List ℕ) → to_hear (below_at levels us) 0 0 0 ≡ shared_tails_to (levels - 1) us
unfolding below_at to_hear
below_start levels us = below_all us (levels - 1)
