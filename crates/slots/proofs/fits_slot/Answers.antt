-- `slots::fits_slot` meets its contract: the mask, then the digit above it. Assumes nothing.
use Rattle.slots.specs.Fits.{fits_slot}
use Rattle.slots.proofs.fits_slot.Goals as goal

pub returns-then-fits_mask : goal.returns-then-fits_mask
unfolding fits_slot
returns-then-fits_mask c = rw (← c.fits_mask.ensures, c.if-fits_mask.true, c.high_bits.ensures, c.from.ensures)

pub returns-else-fits_mask : goal.returns-else-fits_mask
unfolding fits_slot
returns-else-fits_mask c = rw (← c.fits_mask.ensures, c.if-fits_mask.false)
