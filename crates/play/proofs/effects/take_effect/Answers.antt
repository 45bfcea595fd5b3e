-- `play::effects::take_effect` meets its contract: a lock sets the one byte. The rest the check finds; this answer is where a wrong lock is refused,
-- also while `store_blocks` is not proved. Assumes nothing.
use mathlib.Core.Path.{refl}
use Rattle.play.specs.Effects.{memory_after, locks_after}
use Rattle.play.proofs.effects.take_effect.Goals as goal

pub returns-in-Lock : goal.returns-in-Lock
unfolding memory_after locks_after
returns-in-Lock c = rw c.in-Lock.is (refl, refl)
