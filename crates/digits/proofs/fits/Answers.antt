-- `digits::fits` meets its contract, by its one test. Assumes nothing.
use mathlib.Core.Path.{◌∙◌}
use Rattle.digits.proofs.Digits.{value_some, fits_digit, fits_itself}
use Rattle.digits.proofs.fits.Goals as goal

pub returns-then-f-eq88 : goal.returns-then-f-eq88
returns-then-f-eq88 c = c.is_some.ensures ∙ rw c.digit_of.ensures (value_some c.args.b ∙ fits_digit _ _ c.if-f-eq88.true)

pub returns-else-f-eq88 : goal.returns-else-f-eq88
returns-else-f-eq88 c = fits_itself _ _ c.if-f-eq88.false
