-- Products of blocks and sizes: a block lies within its memory. By multiplication of the bounds. Assumes nothing.
use Prim.Native.Nat.{ℕ, suc, ◌+◌, ◌*◌, ◌≤◌, ◌<◌}
use native.Mathlib.Nat.{mul-le-mul_right, suc-mul}
use native.Mathlib.Omega.{arith}

-- a block of the card is within its memory
pub block_within : (block blocks size : ℕ) → block < blocks → block * size + size ≤ blocks * size
block_within block blocks size h =
    let inside : suc block * size ≤ blocks * size = mul-le-mul_right size h in
    omega (arith, suc-mul block size)
