-- `player::told::Text::put_named` meets its contract: a name, and the row after it. Assumes nothing.
use Rattle.player.proofs.Adding.{adds_then}
use Rattle.player.proofs.told.Text.put_named.Goals as goal

pub returns : goal.returns
returns c = adds_then c.put.ensures c.put_row.ensures
