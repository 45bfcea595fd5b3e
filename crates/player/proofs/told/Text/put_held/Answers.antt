-- `player::told::Text::put_held` meets its contract, by what is held. Assumes nothing.
use Rattle.player.proofs.Adding.{adds_none}
use Rattle.player.specs.Record.{held_text}
use Rattle.player.proofs.told.Text.put_held.Goals as goal

pub returns-in-Free : goal.returns-in-Free
unfolding held_text
returns-in-Free c = rw c.in-Free.is (adds_none c.args.self.now.at c.args.self.now.bytes)
