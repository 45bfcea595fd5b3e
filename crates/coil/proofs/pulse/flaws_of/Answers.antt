-- `coil::pulse::flaws_of` meets its contract: the units of a pair are alike or not. Assumes nothing.
use native.Mathlib.Omega.{arith}
use Rattle.coil.proofs.Patterns.{level_flaws}
use Rattle.coil.proofs.pulse.flaws_of.Goals as goal

pub returns : goal.returns
returns c = level_flaws c.args.b (omega arith)
