-- `play::refusal::locks_fit` meets its contract. The loop's invariant: the highest byte so far and what is left of the lock bytes decide.
-- Assumes nothing.
use mathlib.Core.Path.{◌≡◌}
use mathlib.Core.Bool.{◌&&◌}
use lib.Dec.{leb}
use lib.ListN.{drop}
use Rattle.play.specs.Refusal.{locks_fit}
use Rattle.play.proofs.refusal.locks_fit.Given as goal

abbrev pub invariant-loop-lock : goal.invariant-loop-lock
invariant-loop-lock l = (leb l.highest 1 && locks_fit (drop l.lock-index l.locks)) ≡ locks_fit l.locks
