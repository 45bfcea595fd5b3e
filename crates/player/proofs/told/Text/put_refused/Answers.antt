-- `player::told::Text::put_refused` meets its contract: a word and a digit. Assumes nothing.
use Rattle.player.proofs.Adding.{adds_then}
use Rattle.player.specs.Answer.{refused_text}
use Rattle.player.proofs.told.Text.put_refused.Goals as goal

pub returns : goal.returns
unfolding refused_text
returns c = rw (c.digit.ensures, c.from.ensures, c.number.ensures) at (adds_then c.put.ensures c.put-2.ensures)
