-- 01, The card: what a slot mark does.
use Rattle.std.specs.Prelude.{◌+◌, cond, ltb}
use Rattle.slots.specs.Fits.{fits_slot}
use Rattle.card.specs.declared.Card.{Card}
use Rattle.card.specs.declared.Turn.{Turn}
use Rattle.card.specs.declared.Sequence.{Sequence}
use Rattle.card.specs.declared.Sequence.TheVariants.{Idle, Running}
use Rattle.card.specs.declared.Held.{Held}
use Rattle.card.specs.declared.Held.TheVariants.{Free, Success, Code}
use Rattle.card.specs.declared.Reply.TheVariants.{Error, Done}
use Rattle.card.specs.Record.{in_sequence, holding}
use Rattle.card.specs.Inventory.{turn, still, present}

-- "with none held it moves a running sequence to the next slot (after slot 15 it ends), answering if the slot matches; else silence."
unfoldable pub moved : Card → Sequence → Turn
moved c Idle = still c
moved c (Running slot n mask) =
    cond (ltb slot 15)
    (turn (in_sequence (Running (slot + 1) n mask) c) (present (fits_slot c.uid n mask (slot + 1))))
    (still (in_sequence Idle c))

-- "A slot mark releases it and changes nothing else"
unfoldable pub released : Card → Held → Turn
released c Free = moved c c.sequence
released c Success = turn (holding Free c) Done
released c (Code code) = turn (holding Free c) (Error code)

unfoldable pub marked : Card → Turn
marked c = released c c.held
