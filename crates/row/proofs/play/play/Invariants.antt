-- `row::play::play` meets its contract. The loop's invariant: the rest of the slots, over the first n cards, ends where all of them end
-- (Played.antt). Assumes nothing.
use lib.ListN.{take}
use Rattle.row.specs.Play.{ended}
use Rattle.row.proofs.Played.{Playing}
use Rattle.row.proofs.play.play.Given as goal

abbrev pub invariant-loop-slot : goal.invariant-loop-slot
invariant-loop-slot l = Playing (ended (take l.fn.n l.fn.uids)) l.slot l.desk (take l.fn.n l.row)
