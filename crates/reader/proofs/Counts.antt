-- How many blocks and bytes a request is about, at the most: so that products fit. By the cases of the definitions.
-- Assumes nothing.
use mathlib.Core.Bool.{Bool, true, false, cond, ◌||◌}
use Prim.Native.Nat.{ℕ, ◌+◌, ◌*◌, ◌≤◌}
use native.Mathlib.Nat.{mul-le-mul}
use native.Mathlib.Omega.{arith}
use lib.Dec.{eqb}
use Rattle.reader.specs.declared.Request.{Request}
use Rattle.reader.specs.Reading.{count}

pub count_most : (q : Request) → q.n ≤ 255 → count q ≤ 256
unfolding count
count_most q h = go (eqb q.command 0x23 || eqb q.command 0x2c)
  where
    go : (t : Bool) → cond t (q.n + 1) 1 ≤ 256
    go true = omega arith
    go false = omega arith

pub products_fit : (a b : ℕ) → a ≤ 256 → b ≤ 65536 → a * b ≤ 16777216
products_fit a b h k = mul-le-mul h k
