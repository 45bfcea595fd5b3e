-- `reader::owners::blocks` meets its contract. The loop's invariant: i blocks and their lead bytes stand at the start of their buffers (Taken.antt).
-- Assumes nothing.
use mathlib.Core.Path.{◌≡◌}
use Rattle.reader.specs.Reading.{leads_in, blocks_in}
use Rattle.lent.specs.Lent.{over}
use Rattle.reader.proofs.owners.blocks.Given as goal

abbrev pub invariant-loop-i : goal.invariant-loop-i
invariant-loop-i l =
    record {
      blocks : l.blocks ≡ over (blocks_in l.part l.lead l.size l.i) l.initial.blocks;
      locks : l.locks ≡ over (leads_in l.part l.lead l.size l.i) l.initial.locks;
    }
