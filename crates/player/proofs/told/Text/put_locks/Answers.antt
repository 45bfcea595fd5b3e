-- `player::told::Text::put_locks` meets its contract, by whether there are any. Assumes nothing.
use Rattle.std.proofs.Common.{eq-eqb, arith}
use Rattle.player.specs.Shown.{lock_text}
use Rattle.player.proofs.Adding.{adds_none}
use Rattle.player.proofs.told.Text.put_locks.Goals as goal

pub returns-else-n-gt0 : goal.returns-else-n-gt0
unfolding lock_text
returns-else-n-gt0 c = rw (eq-eqb c.args.n 0 (omega arith)) (adds_none c.args.self.now.at c.args.self.now.bytes)
