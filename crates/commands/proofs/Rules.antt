-- Rules of the page that follow from the definitions: a bad frame ends the sequence, an inventory request is the turn that it is without
-- memory. By the tests of the definitions. Assumes nothing.
use mathlib.Core.Path.{◌≡◌, refl}
use mathlib.Core.Bool.{Bool, true, false, cond, ◌||◌}
use Prim.Native.Nat.{ℕ}
use mathlib.Core.List.{List}
use lib.ListN.{get_or}
use Rattle.frames.specs.Flags.{flags_of}
use Rattle.frames.specs.Frame.{is_sound}
use Rattle.card.specs.declared.Card.{Card}
use Rattle.commands.specs.declared.Deed.{Deed}
use Rattle.card.specs.declared.Sequence.TheVariants.{Idle}
use Rattle.card.specs.declared.Held.TheVariants.{Free}
use Rattle.card.specs.declared.Reply.TheVariants.{Silence}
use Rattle.card.specs.Record.{remade, cleared}
use Rattle.card.specs.Inventory.{inventoried}
use Rattle.commands.specs.Request.{silent, requested}
use Rattle.card.specs.Frame.{heard_inventory}
use Rattle.commands.specs.Frame.{leaving, decided}
use Rattle.commands.specs.Verdict.{heeded}

-- a frame that is not sound gets silence, with the next state fixed
pub unsound_silent : (c : Card) (locks frame : List ℕ) → is_sound frame ≡ false → decided c locks frame ≡ silent (cleared c)
unfolding decided
unsound_silent c locks frame e = rw e

-- and a cleared card runs no sequence and holds no answer
pub cleared_idle : (c : Card) → ((cleared c).sequence ≡ Idle) × ((cleared c).held ≡ Free)
unfolding cleared remade
cleared_idle c = (refl, refl)

-- what an inventory frame does is what `hear_inventory` says
pub inventory_frame : (c : Card) (locks frame : List ℕ) → (flags_of (get_or frame 0 0)).b3 ≡ true → decided c locks frame ≡ leaving (heard_inventory c frame)
unfolding decided heard_inventory
inventory_frame c locks frame e = go (is_sound frame) ((flags_of (get_or frame 0 0)).b4 || (flags_of (get_or frame 0 0)).b8) (flags_of (get_or frame 0 0)).b3 e
  where
    go : (s z i : Bool) → i ≡ true
        → ◌≡◌ {A = Deed}
        (cond s (cond z (silent (cleared c)) (cond i (leaving (inventoried (cleared c) (flags_of (get_or frame 0 0)) frame)) (requested (cleared c) locks (flags_of (get_or frame 0 0)) frame))) (silent (cleared c)))
        (leaving (cond s (cond z (record { card = cleared c; reply = Silence }) (cond i (inventoried (cleared c) (flags_of (get_or frame 0 0)) frame) (record { card = cleared c; reply = Silence }))) (record { card = cleared c; reply = Silence })))
    go false z i e = refl
    go true true i e = refl
    go true false i e = rw e

-- and any other frame what `request` says
pub other_frame : (c : Card) (locks frame : List ℕ) → (flags_of (get_or frame 0 0)).b3 ≡ false
    → decided c locks frame ≡ heeded (cleared c) locks (flags_of (get_or frame 0 0)) frame
unfolding decided heeded
other_frame c locks frame e = rw e
