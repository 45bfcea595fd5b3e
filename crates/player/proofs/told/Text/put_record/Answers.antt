-- `player::told::Text::put_record` meets its contract: five pieces, one after another. Assumes nothing.
use Rattle.player.proofs.Adding.{adds_then}
use Rattle.player.specs.Record.{record_text}
use Rattle.player.proofs.told.Text.put_record.Goals as goal

pub returns : goal.returns
unfolding record_text
returns c =
    let first = adds_then c.put_mode.ensures c.put_sequence.ensures in
    let second = adds_then (adds_then first c.put_held.ensures) c.put_kept.ensures in
    adds_then second c.put_kept-2.ensures
