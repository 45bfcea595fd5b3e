-- `coil::pulse::half_of` meets its contract: shifts and masks make the four pairs. Assumes nothing.
use native.Mathlib.Omega.{arith}
use Rattle.coil.proofs.Patterns.{turned_half}
use Rattle.coil.proofs.pulse.half_of.Goals as goal

pub returns : goal.returns
returns c = turned_half c.args.v (omega arith)
