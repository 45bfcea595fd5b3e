-- `slots::is_below` meets its contract: above its length nothing is left of a mask. Assumes nothing.
use Rattle.slots.proofs.Bits.{none_above}
use Rattle.slots.proofs.is_below.Goals as goal

pub returns : goal.returns
returns c = rw c.high_bits.ensures (none_above _ _)
