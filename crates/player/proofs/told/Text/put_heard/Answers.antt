-- `player::told::Text::put_heard` meets its contract, by whether there are bytes. Assumes nothing.
use Rattle.std.proofs.Common.{arith}
use Rattle.player.proofs.Rows.{heard_silent, heard_pairs}
use Rattle.player.proofs.told.Text.put_heard.Goals as goal

pub returns-in-empty : goal.returns-in-empty
returns-in-empty c = rw (heard_silent c.args.answer.now (omega arith)) at c.put.ensures

pub returns-in-len1-up : goal.returns-in-len1-up
returns-in-len1-up c = rw (heard_pairs c.args.answer.now (omega arith)) at c.put_pairs.ensures
