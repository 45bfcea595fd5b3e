-- `reader::owners::copy` meets its contract. The loop's invariant: the first i bytes are placed (Copy.antt). Assumes nothing.
use native.Mathlib.Omega.{arith}
use mathlib.Core.Path.{sym}
use Rattle.reader.proofs.Copy.{placed_part_suc}
use Rattle.lent.proofs.Over.{placed_none}
use Rattle.reader.proofs.owners.copy.Goals as goal

pub loop-i-init : goal.loop-i-init
loop-i-init c = sym (placed_none _ _)

pub loop-i-preserved : goal.loop-i-preserved
loop-i-preserved c =
    let args = c.args in
    let longer = placed_part_suc args.at args.place c.loop-i.i args.from.now args.to.now (omega arith) (omega arith) in
    rw c.loop-i.invariant longer
