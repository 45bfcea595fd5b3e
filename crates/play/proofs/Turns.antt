-- The replies to an inventory request and to a slot mark need no memory. By the tests of the definitions. Assumes nothing.
use mathlib.Core.Path.{◌≡◌, refl}
use mathlib.Core.Bool.{Bool, true, false, cond, ◌&&◌}
use Prim.Native.Nat.{ℕ}
use mathlib.Core.List.{List}
use lib.Dec.{ltb}
use lib.ListN.{get_or}
use Rattle.frames.specs.declared.Flags.{Flags}
use Rattle.card.specs.declared.Card.{Card}
use Rattle.card.specs.declared.Sequence.{Sequence}
use Rattle.card.specs.declared.Sequence.TheVariants.{Idle, Running}
use Rattle.card.specs.declared.Held.{Held}
use Rattle.card.specs.declared.Held.TheVariants.{Free, Success, Code}
use Rattle.card.specs.declared.Turn.{Turn}
use Rattle.card.specs.Inventory.{present, joins, inventoried, is_inventory, takes_part, length_place}
use Rattle.card.specs.Mark.{marked, released, moved}
use Rattle.play.specs.Steps.{is_brief}

abbrev Brief : Turn → Type 0
Brief t = is_brief t.reply ≡ true

either : (b : Bool) (x y : Turn) → Brief x → Brief y → Brief (cond b x y)
either true x y p q = p
either false x y p q = q

present_brief : (b : Bool) → is_brief (present b) ≡ true
unfolding present is_brief
present_brief true = refl
present_brief false = refl

pub inventoried_brief : (c : Card) (f : Flags) (frame : List ℕ) → is_brief (inventoried c f frame).reply ≡ true
unfolding inventoried joins is_brief
inventoried_brief c f frame =
    either (is_inventory c f frame (get_or frame (length_place f) 0) && takes_part c f frame) _ _
    (either f.b6 _ _ (present_brief _) (present_brief _))
    refl

moved_brief : (c : Card) (s : Sequence) → Brief (moved c s)
unfolding moved is_brief
moved_brief c Idle = refl
moved_brief c (Running slot n mask) = either (ltb slot 15) _ _ (present_brief _) refl

released_brief : (c : Card) (h : Held) → Brief (released c h)
unfolding released is_brief
released_brief c Free = moved_brief c c.sequence
released_brief c Success = refl
released_brief c (Code code) = refl

pub marked_brief : (c : Card) → is_brief (marked c).reply ≡ true
unfolding marked
marked_brief c = released_brief c c.held
