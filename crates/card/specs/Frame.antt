-- 01, The card, "Order for a frame", steps 1 and 2.
use Rattle.std.specs.Prelude.{ℕ, cond, List, get_or}
use Rattle.frames.specs.declared.Flags.{Flags}
use Rattle.frames.specs.Flags.{flags_of, asks_inventory, sets_reserved}
use Rattle.frames.specs.Frame.{is_sound}
use Rattle.card.specs.declared.Card.{Card}
use Rattle.card.specs.declared.Turn.{Turn}
use Rattle.card.specs.Record.{cleared}
use Rattle.card.specs.Inventory.{still, inventoried}

-- "1. Under 4 bytes, over 64, or wrong check: silence. 2. .. b4 and b8 must be 0, else silence.": for a reader that sends inventory
-- requests alone, so that what any other frame does beyond clearing is left out
unfoldable pub heard_inventory : Card → List ℕ → Turn
heard_inventory card frame =
    let c : Card = cleared card in
    let f : Flags = flags_of (get_or frame 0 0) in
    cond (is_sound frame) (cond (sets_reserved f) (still c) (cond (asks_inventory f) (inventoried c f frame) (still c))) (still c)
