-- A slot over the first n cards of a row of 100: its parts are the definition's, and what the first n cards become is a slot of a row of n.
-- By induction over the row. Assumes nothing.
use mathlib.Core.Path.{◌≡◌, refl, ap, ◌∙◌}
use Prim.Native.Nat.{ℕ, zero, suc, min}
use mathlib.Core.List.{List, [], ◌∷◌, ◌++◌}
use lib.ListN.{length, take, drop}
use Rattle.card.specs.declared.Card.{Card}
use Rattle.walk.specs.declared.Walk.{Walk}
use Rattle.row.specs.declared.Air.{Air}
use Rattle.row.specs.declared.Desk.{Desk}
use Rattle.row.specs.Row.{turn_of, still_air, row_air, row_after, HearsRow, desk_after}
use Rattle.row.specs.Play.{slot_air, slot_row, slotted}
use Rattle.row.proofs.AtMost.{take_most, drop_most}

pub slot_made : (row left : List Card) (n m : ℕ) (d next : Desk) (air : Air) → length row ≡ 100 → m ≡ min n 100
    → HearsRow d.walk (take m row) air left → next ≡ desk_after d air → record { row = left ++ drop m row; desk = next; air = air } ≡ slotted row n d
unfolding slotted slot_air slot_row
slot_made row left n m d next air l is h e =
    let w : Walk = d.walk in
    let first : take m row ≡ take n row = take_most 100 n m row l is in
    let rest : drop m row ≡ drop n row = drop_most 100 n m row l is in
    let heard : air ≡ row_air w still_air (take n row) = h.air ∙ ap (row_air w still_air) first in
    let after : left ≡ row_after w (take n row) = h.row_left ∙ ap (row_after w) first in
    λ i. record { row = after i ++ rest i; desk = (e ∙ ap (desk_after d) heard) i; air = heard i }

-- the first n cards after a slot
pub first_after : (w : Walk) (n : ℕ) (row : List Card) → take n (slot_row w n row) ≡ row_after w (take n row)
unfolding slot_row row_after
first_after w zero row = refl
first_after w (suc n) [] = refl
first_after w (suc n) (c ∷ cs) = ap (λ (ds : List Card). (turn_of w c).card ∷ ds) (first_after w n cs)
