-- `walk::shared::count_marks` meets its contract. The loop's invariant: each number is the count over the marks so far. Assumes nothing.
use mathlib.Core.Path.{◌≡◌}
use lib.ListN.{take}
use Rattle.tails.specs.Sum.{times}
use Rattle.walk.proofs.shared.count_marks.Given as goal

abbrev pub invariant-loop-owner : goal.invariant-loop-owner
invariant-loop-owner l =
    (l.free ≡ times 255 (take l.owner-index l.marks)) × (l.first ≡ times 0 (take l.owner-index l.marks)) × (l.second ≡ times 1 (take l.owner-index l.marks))
