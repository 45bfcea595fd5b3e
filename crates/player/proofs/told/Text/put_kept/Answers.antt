-- `player::told::Text::put_kept` meets its contract: a pair, and a word after it if it is locked. Assumes nothing.
use Rattle.player.proofs.Adding.{adds_then}
use Rattle.player.specs.Record.{kept_text}
use Rattle.player.proofs.told.Text.put_kept.Goals as goal

pub returns-then-is_locked : goal.returns-then-is_locked
unfolding kept_text
returns-then-is_locked c =
    let all = adds_then c.put_pair.ensures c.put.ensures in
    rw c.if-is_locked.true all
