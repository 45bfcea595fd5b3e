-- `play::refusal::locks_fit` meets its contract. The loop's invariant: the highest byte so far and what is left of the lock bytes decide.
-- Assumes nothing.
use Rattle.play.proofs.Locks.{locks_next, locks_past}
use Rattle.play.proofs.refusal.locks_fit.Goals as goal

pub loop-lock-preserved : goal.loop-lock-preserved
loop-lock-preserved c = rw c.max-highest.ensures (locks_next _ _ _ c.loop-lock-test.true c.loop-lock.invariant)

pub returns : goal.returns
returns c = locks_past _ _ _ c.loop-lock-test.false c.loop-lock.invariant
