-- `player::told::Text::put_sequence` meets its contract, by the sequence: nothing, or what runs. Assumes nothing.
use Rattle.player.proofs.Adding.{adds_none}
use Rattle.player.specs.Record.{sequence_text}
use Rattle.player.proofs.told.Text.put_sequence.Goals as goal

pub returns-in-Idle : goal.returns-in-Idle
unfolding sequence_text
returns-in-Idle c = rw c.in-Idle.is (adds_none c.args.self.now.at c.args.self.now.bytes)
