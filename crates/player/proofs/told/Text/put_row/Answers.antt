-- `player::told::Text::put_row` meets its contract. The loop's invariant: the row of the bytes so far was added. Assumes nothing.
use Rattle.std.proofs.Common.{arith}
use Rattle.digits.specs.Rows.{row_text}
use Rattle.player.proofs.Adding.{adds_then, adds_none}
use Rattle.player.proofs.Rows.{row_more}
use Rattle.player.proofs.told.Text.put_row.Goals as goal

pub loop-b-init : goal.loop-b-init
unfolding row_text
loop-b-init c = adds_none c.args.self.now.at c.args.self.now.bytes

pub loop-b-preserved : goal.loop-b-preserved
loop-b-preserved c =
    let loop = c.loop-b in
    rw (row_more c.args.bytes.now loop.b-index (omega arith)) at (adds_then loop.invariant c.put_byte.ensures)
