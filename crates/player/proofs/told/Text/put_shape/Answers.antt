-- `player::told::Text::put_shape` meets its contract: two pieces, one after another. Assumes nothing.
use Rattle.player.proofs.Adding.{adds_then}
use Rattle.player.specs.Shown.{shape_text}
use Rattle.player.proofs.told.Text.put_shape.Goals as goal

pub returns : goal.returns
unfolding shape_text
returns c = rw (c.from.ensures, c.from-2.ensures) at (adds_then c.put_digits.ensures c.put_digits-2.ensures)
