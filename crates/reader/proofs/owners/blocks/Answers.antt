-- `reader::owners::blocks` meets its contract. The loop's invariant: i blocks and their lead bytes stand at the start of their buffers (Taken.antt).
-- Assumes nothing.
use native.Mathlib.Omega.{arith}
use Prim.Native.Nat.{◌+◌}
use Rattle.reader.proofs.Taken.{block_inside, blocks_none, leads_none, blocks_more, leads_more}
use Rattle.reader.proofs.owners.blocks.Goals as goal

pub loop-i-init : goal.loop-i-init
loop-i-init c = record { blocks = blocks_none _ _ _ _; locks = leads_none _ _ _ _ }

pub loop-i-preserved : goal.loop-i-preserved
loop-i-preserved c =
    let args = c.args in
    let loop = c.loop-i in
    let within = block_inside loop.i args.count (args.lead + args.size) (omega arith) in
    record {
      blocks = blocks_more args.part.now args.lead args.size loop.i args.blocks.now loop.invariant.blocks c.copy-in-loop-i.ensures (omega arith);
      locks = leads_more args.part.now args.lead args.size loop.i args.locks.now loop.invariant.locks c.copy.ensures (omega arith);
    }
