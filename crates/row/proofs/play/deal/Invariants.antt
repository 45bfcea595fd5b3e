-- `row::play::deal` meets its contract. The loop's invariant: the first i cards are those of the first i UIDs.
-- Assumes nothing.
use mathlib.Core.Path.{◌≡◌}
use lib.ListN.{length, take}
use Rattle.row.specs.Row.{cards_of}
use Rattle.row.proofs.play.deal.Given as goal

abbrev pub invariant-loop-i : goal.invariant-loop-i
invariant-loop-i l = (length l.card-items ≡ 100) × (take l.i l.card-items ≡ cards_of (take l.i l.uids))
