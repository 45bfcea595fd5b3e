-- `frames::fill` meets its contract: a byte leaves the value for each place. Assumes nothing.
use native.Mathlib.Omega.{arith}
use mathlib.Core.Path.{sym, ◌∙◌}
use Rattle.frames.proofs.Fields.{filled_more, filled_all}
use Rattle.frames.proofs.fill.Goals as goal

pub loop-slot-preserved : goal.loop-slot-preserved
loop-slot-preserved c = let loop = c.loop-slot in filled_more _ _ _ _ (omega arith) (omega arith) ∙ loop.invariant

pub returns : goal.returns
returns c = let loop = c.loop-slot in sym (filled_all _ loop.slot-index _ _ (omega arith) (omega arith)) ∙ loop.invariant
