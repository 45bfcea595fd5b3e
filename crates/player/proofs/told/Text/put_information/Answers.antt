-- `player::told::Text::put_information` meets its contract: five pieces, one after another. Assumes nothing.
use Rattle.player.proofs.Adding.{adds_then}
use Rattle.player.specs.Shown.{information_text}
use Rattle.player.proofs.told.Text.put_information.Goals as goal

pub returns : goal.returns
unfolding information_text
returns c =
    let first = adds_then (adds_then c.put_digits.ensures c.put_pair.ensures) c.put_pair-2.ensures in
    adds_then (adds_then first c.put_shape.ensures) c.put_pair-3.ensures
