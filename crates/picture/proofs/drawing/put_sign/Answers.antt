-- `picture::drawing::put_sign` meets its contract: one byte stored, or two. Assumes nothing.
use native.Mathlib.Omega.{arith}
use lib.ListN.{length-set}
use Rattle.lent.proofs.Puts.{puts_byte, puts_bytes}
use Rattle.picture.proofs.drawing.put_sign.Goals as goal

pub bounds-out-at-then-ends : goal.bounds-out-at-then-ends
bounds-out-at-then-ends c = rw length-set (omega arith)

pub returns-then-ends : goal.returns-then-ends
returns-then-ends c = rw c.if-ends.true (puts_bytes _ _ _ _ (omega arith))

pub returns : goal.returns
returns c = rw c.if-ends.false (puts_byte _ _ _ (omega arith))
