-- `slots::low_bits` meets its contract: from 64 on nothing is cut. Assumes nothing.
use native.Mathlib.Omega.{arith}
use native.Mathlib.Nat.{mod-eq_of_lt}
use mathlib.Core.Path.{sym}
use Rattle.slots.proofs.Bits.{below_power}
use Rattle.slots.proofs.low_bits.Goals as goal

pub returns-in-None : goal.returns-in-None
returns-in-None c = sym (mod-eq_of_lt (below_power _ _ (omega arith) (omega (arith, c.in-None.ensures, c.from.ensures))))
