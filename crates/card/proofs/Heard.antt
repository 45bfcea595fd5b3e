-- What clearing a card keeps, and what a sound inventory request does to a cleared card. By the tests of the definitions.
-- Assumes nothing.
use mathlib.Core.Path.{◌≡◌, refl}
use mathlib.Core.Bool.{true, false}
use mathlib.Core.List.{List}
use Prim.Native.Nat.{ℕ}
use lib.ListN.{get_or}
use Rattle.frames.specs.Flags.{flags_of, asks_inventory, sets_reserved}
use Rattle.frames.specs.Frame.{is_sound}
use Rattle.card.specs.declared.Card.{Card}
use Rattle.card.specs.Record.{remade, cleared}
use Rattle.card.specs.Inventory.{inventoried}
use Rattle.card.specs.Frame.{heard_inventory}

pub cleared_mode : (c : Card) → (cleared c).mode ≡ c.mode
unfolding cleared remade
cleared_mode c = refl

pub cleared_afi : (c : Card) → (cleared c).afi ≡ c.afi
unfolding cleared remade
cleared_afi c = refl

pub cleared_uid : (c : Card) → (cleared c).uid ≡ c.uid
unfolding cleared remade
cleared_uid c = refl

-- a sound frame that asks for an inventory, no reserved flag set
pub inventory_heard : (c : Card) (frame : List ℕ) → is_sound frame ≡ true → sets_reserved (flags_of (get_or frame 0 0)) ≡ false
    → asks_inventory (flags_of (get_or frame 0 0)) ≡ true → heard_inventory c frame ≡ inventoried (cleared c) (flags_of (get_or frame 0 0)) frame
unfolding heard_inventory
inventory_heard c frame sound none asks = rw (sound, none, asks)

-- cards that are the same once cleared hear it alike
pub heard_cleared : (c card : Card) (frame : List ℕ) → cleared card ≡ cleared c → heard_inventory card frame ≡ heard_inventory c frame
unfolding heard_inventory
heard_cleared c card frame e = rw e
