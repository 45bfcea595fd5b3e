-- 01, The card, "Order for a frame", steps 1 and 2; step 3 is in crates/card, steps 4 to 6 are in Request.antt.
use Rattle.std.specs.Prelude.{ℕ, cond, List, get_or}
use Rattle.frames.specs.declared.Flags.{Flags}
use Rattle.frames.specs.Flags.{flags_of, asks_inventory, sets_reserved}
use Rattle.frames.specs.Frame.{is_sound}
use Rattle.card.specs.declared.Card.{Card}
use Rattle.card.specs.declared.Turn.{Turn}
use Rattle.commands.specs.declared.Effect.TheVariants.{Leave}
use Rattle.commands.specs.declared.Deed.{Deed}
use Rattle.card.specs.Record.{cleared}
use Rattle.card.specs.Inventory.{inventoried}
use Rattle.commands.specs.Request.{deed, silent, requested}

-- an inventory's turn leaves memory and locks
abbrev pub leaving : Turn → Deed
leaving t = deed t.card Leave t.reply

-- "1. Under 4 bytes, over 64, or wrong check: silence. 2. .. b4 and b8 must be 0, else silence."
unfoldable pub decided : Card → List ℕ → List ℕ → Deed
decided card locks frame =
    let c : Card = cleared card in
    let f : Flags = flags_of (get_or frame 0 0) in
    cond (is_sound frame)
    (cond (sets_reserved f) (silent c) (cond (asks_inventory f) (leaving (inventoried c f frame)) (requested c locks f frame)))
    (silent c)
