-- `player::told::Text::put_running` meets its contract: three pieces, one after another. Assumes nothing.
use Rattle.player.proofs.Adding.{adds_then}
use Rattle.player.specs.Record.{running_text}
use Rattle.player.proofs.told.Text.put_running.Goals as goal

pub returns : goal.returns
unfolding running_text
returns c = adds_then (adds_then c.put_pair.ensures c.put_pair-2.ensures) c.put_mask.ensures
