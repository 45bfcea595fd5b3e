-- The cards that answer, by what they do: a card hears the first round of a fresh walk. 01, The walk: "Slots 0 to 15 are then heard, a slot mark before
-- each but the first."
use Rattle.std.specs.Prelude.{ℕ, zero, suc, ◌%◌, ◌≤◌, ◌<◌, Bool, not, ◌&&◌, List, ◌≡◌, eqb, length}
use Rattle.play.specs.Events.{Outcome}
use Rattle.walk.specs.declared.Send.TheVariants.{Mark}
use Rattle.walk.specs.Record.{started}
use Rattle.walk.specs.Ask.{Asking, asking}
use Rattle.play.specs.Life.{Tag, tag_after}
use Rattle.field.specs.Field.{Obeys, answers, reached}

-- what slot s makes of a card: the request reaches it in slot 0, a slot mark in each later one
unfoldable pub outcome_in : ℕ → List ℕ → Tag → ℕ → Outcome
outcome_in family room t zero =
    let a : Asking = asking (started family) room in
    reached a.send a.room t
outcome_in family room t (suc s) = reached Mark room (tag_after (outcome_in family room t s))

-- it is not silent in slot s
unfoldable pub is_heard : ℕ → List ℕ → Tag → ℕ → Bool
is_heard family room t s = not (eqb (outcome_in family room t s).told 0)

-- a card in any state that answers the family is heard in one slot, that of its UID's lowest digit; any other in none
unfoldable pub HeardOnce : Type 0
HeardOnce =
    (family : ℕ) (room : List ℕ) (t : Tag) → Obeys t → 14 ≤ length room → (s : ℕ) → s < 16
    → is_heard family room t s ≡ (answers family t.card && eqb (t.card.uid % 16) s)
