-- `player::told::Text::put_pairs` meets its contract: the first pair after a line feed, the others as a row. Assumes nothing.
use Rattle.std.proofs.Common.{arith}
use Rattle.player.proofs.Rows.{pairs_cons}
use Rattle.player.proofs.Adding.{adds_then}
use Rattle.player.proofs.told.Text.put_pairs.Goals as goal

pub returns-in-len1-up : goal.returns-in-len1-up
returns-in-len1-up c = rw (pairs_cons c.args.bytes.now (omega arith)) at (adds_then c.put_byte.ensures c.put_row.ensures)
