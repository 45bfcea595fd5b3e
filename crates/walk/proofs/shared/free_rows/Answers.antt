-- `walk::shared::free_rows` meets its contract. The loop's invariant: the rows so far are freed, the others as found. Assumes nothing.
use mathlib.Core.Path.{sym}
use lib.ListN.{take}
use Rattle.walk.proofs.OwnersSteps.{freed_to_none, freed_to_all, row_freed, row_kept}
use Rattle.walk.proofs.shared.free_rows.Goals as goal
use Rattle.walk.proofs.shared.free_rows.Goals.{then-owner-rack, else-owner-rack}

pub loop-owner-init : goal.loop-owner-init
loop-owner-init c = sym (freed_to_none _ _)

pub loop-owner-preserved : goal.loop-owner-preserved
loop-owner-preserved c =
    let loop = c.loop-owner in
    let marks = take 64 c.args.owners.now in
    elim c.if-owner-rack.branch [
      | then-owner-rack w ↦ row_freed c.args.rack loop.owner-index marks loop.owner-items _ c.loop-owner-test.true loop.invariant w.if-owner-rack.true w.owner-items-is
      | else-owner-rack w ↦ row_kept c.args.rack loop.owner-index marks loop.owner-items _ c.loop-owner-test.true loop.invariant w.if-owner-rack.false w.owner-items-is
    ]

pub returns : goal.returns
returns c =
    let loop = c.loop-owner in
    freed_to_all c.args.rack loop.owner-index c.args.owners.now loop.owner-items c.requires c.loop-owner-test.false loop.auto.owner-index-end loop.invariant
