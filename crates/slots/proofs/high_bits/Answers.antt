-- `slots::high_bits` meets its contract: a shift divides, and from 64 on nothing is left. Assumes nothing.
use native.Mathlib.Omega.{arith}
use mathlib.Core.Path.{◌∙◌}
use Rattle.slots.proofs.Bits.{shifted_or_none}
use Rattle.slots.proofs.high_bits.Goals as goal

pub returns : goal.returns
returns c = c.unwrap_or.ensures ∙ shifted_or_none _ _ c.checked_shr.result (omega arith) (rw c.from.ensures at c.checked_shr.ensures)
