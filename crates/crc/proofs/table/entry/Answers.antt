-- `crc::table::entry` meets its contract: each arm gives the entry of its place, and a key that no arm names is below the first, whose entry is 0, or past
-- the last. Assumes nothing.
use mathlib.Core.Path.{◌≡◌, sym}
use mathlib.Core.Logic.{◌⊎◌, inl, inr}
use Prim.Native.Nat.{ℕ, zero, suc, ◌+◌, ◌-◌, ◌≤◌}
use native.Mathlib.Decide.{ℕ_discrete}
use native.Mathlib.Omega.{arith}
use lib.ListN.{get_or, get_or-eq_default}
use Rattle.crc.specs.Table.{table}
use Rattle.crc.proofs.table.entry.Goals as goal

-- x is none of the n keys from 256 on: what the `match` knows where it took none of its first n arms
abbrev NoKey : ℕ → ℕ → Type 0
NoKey x zero = Unit
NoKey x (suc n) = NoKey x n × (x ≡ 256 + n → ⊥)

outside : (x n : ℕ) → NoKey x n → (x - 256 ≡ 0) ⊎ (n ≤ x - 256)
outside x zero none = inr (omega arith)
outside x (suc n) none = go (outside x n none.0) none.1
  where
    go : (x - 256 ≡ 0) ⊎ (n ≤ x - 256) → (x ≡ 256 + n → ⊥) → (x - 256 ≡ 0) ⊎ (suc n ≤ x - 256)
    go (inl e) other = inl e
    go (inr h) other = beyond (ℕ_discrete (x - 256) n)
      where
        beyond : Dec (x - 256 ≡ n) → (x - 256 ≡ 0) ⊎ (suc n ≤ x - 256)
        beyond (no e) = inr (omega (arith, e))
        beyond (yes e) = inl (omega (arith, e, other))

no-entry : (x : ℕ) → NoKey x 256 → 0 ≡ get_or table (x - 256) 0
no-entry x none = go (outside x 256 none)
  where
    go : (x - 256 ≡ 0) ⊎ (256 ≤ x - 256) → 0 ≡ get_or table (x - 256) 0
    go (inl e) = rw e
    go (inr h) = sym (get_or-eq_default table 0 h)

-- an arm with key k and entry e was taken
arm : (x k e : ℕ) → x ≡ k → e ≡ get_or table (k - 256) 0 → e ≡ get_or table (x - 256) 0
arm x k e h found = rw h found

-- the arm that a wrong program changes
pub returns-in-384 : goal.returns-in-384
returns-in-384 c = search arm

pub returns-in_default : goal.returns-in_default
returns-in_default c = no-entry _ c.in_default.in_default-own.rest
