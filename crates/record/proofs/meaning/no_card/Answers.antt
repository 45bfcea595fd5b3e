-- `no_card` meets its contract: each field of no bytes is 0. Assumes nothing.
use mathlib.Core.Path.{refl}
use Rattle.frames.specs.Field.{field_at, field_of}
use Rattle.record.specs.Record.{flag_of, mode_of, sequence_of, held_of, card_of}
use Rattle.record.proofs.meaning.no_card.Goals as goal

pub returns : goal.returns
unfolding card_of field_at field_of flag_of mode_of sequence_of held_of
returns c = refl
