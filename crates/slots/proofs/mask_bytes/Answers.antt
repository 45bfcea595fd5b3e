-- `slots::mask_bytes` meets its contract: an eighth, rounded up. Assumes nothing.
use native.Mathlib.Omega.{arith}
use Rattle.slots.specs.Fits.{mask_bytes}
use Rattle.slots.proofs.mask_bytes.Goals as goal

pub returns : goal.returns
unfolding mask_bytes
returns c = omega (arith, c.div_ceil.ensures, c.from.ensures)
