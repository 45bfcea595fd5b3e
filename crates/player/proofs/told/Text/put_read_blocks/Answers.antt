-- `player::told::Text::put_read_blocks` meets its contract: the blocks, and the lock bytes after them. Assumes nothing.
use Rattle.player.proofs.Adding.{adds_then}
use Rattle.player.specs.Shown.{blocks_text}
use Rattle.player.proofs.told.Text.put_read_blocks.Goals as goal

pub returns : goal.returns
unfolding blocks_text
returns c = adds_then c.put_first.ensures c.put_locks.ensures
