-- `coil::pulse::bits_of` meets its contract: shifts and masks gather four bits. Assumes nothing.
use native.Mathlib.Omega.{arith}
use Rattle.coil.proofs.Patterns.{gathered_bits}
use Rattle.coil.proofs.pulse.bits_of.Goals as goal

pub returns : goal.returns
returns c = gathered_bits c.args.b (omega arith)
