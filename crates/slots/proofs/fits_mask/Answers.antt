-- `slots::fits_mask` meets its contract: the low bits against the mask. Assumes nothing.
use Rattle.slots.specs.Fits.{fits_mask}
use Rattle.slots.proofs.fits_mask.Goals as goal

pub returns : goal.returns
unfolding fits_mask
returns c = rw c.low_bits.ensures
