-- `play::answer::put_blocks` meets its contract. The loop's invariant: the blocks before this one are placed after the first byte, and `at`
-- is the place after them. Assumes nothing.
use mathlib.Core.Path.{◌≡◌}
use Prim.Native.Nat.{◌-◌}
use lib.ListN.{length}
use Rattle.play.proofs.Blocks.{Sofar}
use Rattle.play.proofs.answer.put_blocks.Given as goal

abbrev pub invariant-loop-block : goal.invariant-loop-block
invariant-loop-block l =
    (length l.answer ≡ length l.initial.answer)
    × Sofar l.memory l.locks l.size l.option l.first l.initial.answer (l.block - l.first) l.at l.answer
