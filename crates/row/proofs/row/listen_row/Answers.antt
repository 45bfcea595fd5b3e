-- `row::row::listen_row` meets its contract: what is sent reaches one card more, and at the end the row is heard (RowPart.antt). Assumes nothing.
use native.Mathlib.Omega.{arith}
use Rattle.row.specs.Row.{still_air, turn_of}
use Rattle.row.proofs.RowPart.{partly_none, partly_more, partly_air, partly_row}
use Rattle.row.proofs.row.listen_row.Goals as goal

pub loop-card-init : goal.loop-card-init
unfolding still_air
loop-card-init c = partly_none c.args.walk c.args.row.now

pub loop-card-preserved : goal.loop-card-preserved
unfolding turn_of
loop-card-preserved c =
    let loop = c.loop-card in
    partly_more c.args.walk c.args.row.now loop.card-index loop.row loop.air loop.invariant _ c.turn-turn.result _ (omega arith)
    (rw c.sending-sent.ensures at c.turn-turn.ensures) c.air_with-air.ensures

pub returns : goal.returns
returns c =
    let loop = c.loop-card in
    record {
      air = partly_air c.args.walk c.args.row.now loop.card-index loop.row loop.air loop.invariant (omega arith);
      row_left = partly_row c.args.walk c.args.row.now loop.card-index loop.row loop.air loop.invariant (omega arith);
    }
