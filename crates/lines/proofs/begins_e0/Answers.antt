-- `lines::begins_e0` meets its contract: both are the same test of the highest eight bits. Assumes nothing.
use mathlib.Core.Path.{refl}
use Rattle.lines.specs.Input.{begins_e0}
use Rattle.lines.proofs.begins_e0.Goals as goal

pub returns : goal.returns
unfolding begins_e0
returns c = refl
