-- `card_of` meets its contract: each field by its reader (Reading.antt). Assumes nothing.
use Rattle.record.proofs.Reading.{card_read_lem}
use Rattle.record.specs.Record.{flag_of}
use Rattle.record.proofs.meaning.card_of.Goals as goal

pub returns : goal.returns
unfolding flag_of
returns c =
    card_read_lem _ c.four.ensures c.four-2.ensures c.eight.ensures c.mode_of.ensures c.sequence_of.ensures c.eight-2.ensures c.held_of.ensures
