-- 01, Bench: a fresh walk over the row, slot after slot. "cards Ready, no family"
use Rattle.std.specs.Prelude.{ℕ, Bool, ◌&&◌, List, [], ◌∷◌, ◌++◌, ltb, take, drop}
use Rattle.card.specs.declared.Card.{Card}
use Rattle.walk.specs.declared.Walk.{Walk}
use Rattle.walk.specs.Marks.{levels}
use Rattle.walk.specs.Record.{most_slots, started, is_running}
use Rattle.row.specs.declared.Air.{Air}
use Rattle.row.specs.declared.Desk.{Desk}
use Rattle.row.specs.declared.Slotted.{Slotted}
use Rattle.row.specs.Row.{still_air, row_air, row_after, desk_after, cards_of, played_for}

-- a list of 64 places, all 0
unfoldable pub no_uids : List ℕ
no_uids =
    0 ∷ 0 ∷ 0 ∷ 0 ∷ 0 ∷ 0 ∷ 0 ∷ 0 ∷ 0 ∷ 0 ∷ 0 ∷ 0 ∷ 0 ∷ 0 ∷ 0 ∷ 0
    ∷ 0 ∷ 0 ∷ 0 ∷ 0 ∷ 0 ∷ 0 ∷ 0 ∷ 0 ∷ 0 ∷ 0 ∷ 0 ∷ 0 ∷ 0 ∷ 0 ∷ 0 ∷ 0
    ∷ 0 ∷ 0 ∷ 0 ∷ 0 ∷ 0 ∷ 0 ∷ 0 ∷ 0 ∷ 0 ∷ 0 ∷ 0 ∷ 0 ∷ 0 ∷ 0 ∷ 0 ∷ 0
    ∷ 0 ∷ 0 ∷ 0 ∷ 0 ∷ 0 ∷ 0 ∷ 0 ∷ 0 ∷ 0 ∷ 0 ∷ 0 ∷ 0 ∷ 0 ∷ 0 ∷ 0 ∷ 0
    ∷ []

-- "no family": a fresh walk of family 256, which is none
unfoldable pub fresh_desk : Desk
fresh_desk = record { walk = started 256; list = no_uids }

-- ---- one slot over the first n cards of a row: "0 to 100 of them", so n over 100 counts as 100

unfoldable pub slot_air : Walk → ℕ → List Card → Air
slot_air w n row = row_air w still_air (take n row)

-- the rest of the row stays
unfoldable pub slot_row : Walk → ℕ → List Card → List Card
slot_row w n row = row_after w (take n row) ++ drop n row

-- what `slot` promises
unfoldable pub slotted : List Card → ℕ → Desk → Slotted
slotted row n d =
    let air : Air = slot_air d.walk n row in
    record { row = slot_row d.walk n row; desk = desk_after d air; air = air }

-- ---- all slots

-- whether a slot is still to be heard after n, of all that a walk of 02's fourteen levels can have
unfoldable pub goes_on : Desk → ℕ → Bool
goes_on d n = ltb n (most_slots levels) && is_running d.walk

-- a walk has ended after so many (demand 3)
unfoldable pub ended : List ℕ → Desk
ended us = (played_for (most_slots levels) (record { desk = fresh_desk; row = cards_of us })).desk
