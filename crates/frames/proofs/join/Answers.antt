-- `frames::join` meets its contract: each byte has its weight. Assumes nothing.
use native.Mathlib.Omega.{arith}
use Rattle.frames.specs.Field.{field_of}
use Rattle.frames.proofs.join.Goals as goal

pub returns : goal.returns
unfolding field_of
returns c = omega (arith, c.from_le_bytes.ensures)
