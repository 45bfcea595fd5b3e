-- One slot of the first n cards of a row, and what it draws before the rest; an ended walk stays as it is. By the definitions, and by induction
-- over the row and the slots. Assumes nothing.
use mathlib.Core.Path.{◌≡◌, refl, sym, ap, subst, ◌∙◌}
use mathlib.Core.Bool.{true, false}
use Prim.Native.Nat.{ℕ, zero, suc}
use mathlib.Core.List.{List, [], ◌∷◌, ◌++◌}
use lib.ListN.{take}
use Rattle.card.specs.declared.Card.{Card}
use Rattle.walk.specs.declared.Walk.{Walk}
use Rattle.walk.specs.Record.{is_running}
use Rattle.walk.specs.Hear.{Hearing}
use Rattle.walk.proofs.HearWays.{ended_heard}
use Rattle.row.specs.declared.Air.{Air}
use Rattle.row.specs.declared.Desk.{Desk}
use Rattle.row.specs.declared.Slotted.{Slotted}
use Rattle.row.specs.Row.{Played, turn_of, still_air, row_air, row_after, air_kind, air_bytes, desk_after, slot_played, played_for, card_of, cards_of}
use Rattle.row.specs.Play.{slot_air, slot_row, slotted}
use Rattle.picture.specs.Drawn.{slot_drawn, drawn_for}
use Rattle.picture.proofs.Moves.{Fit, after_fit}

abbrev pub play_of : Desk → List Card → Played
play_of desk row = record { desk = desk; row = row }

-- ---- the first n cards of a row

first_after : (w : Walk) (n : ℕ) (row : List Card) → take n (slot_row w n row) ≡ row_after w (take n row)
unfolding slot_row row_after
first_after w zero row = refl
first_after w (suc n) [] = refl
first_after w (suc n) (c ∷ cs) = ap (λ (ds : List Card). (turn_of w c).card ∷ ds) (first_after w n cs)

pub take_cards : (n : ℕ) (us : List ℕ) → take n (cards_of us) ≡ cards_of (take n us)
unfolding cards_of
take_cards zero us = refl
take_cards (suc n) [] = refl
take_cards (suc n) (u ∷ us) = ap (λ (cs : List Card). card_of u ∷ cs) (take_cards n us)

pub slot_of_first : (row : List Card) (n : ℕ) (desk : Desk) (s : Slotted) → s ≡ slotted row n desk
    → play_of s.desk (take n s.row) ≡ slot_played (play_of desk (take n row))
unfolding slot_played slotted slot_air
slot_of_first row n desk s e =
    ap (λ (t : Slotted). play_of t.desk (take n t.row)) e
    ∙ ap (play_of (slotted row n desk).desk) (first_after desk.walk n row)

-- ---- an ended walk stays as it is

ended_stays : (d : Desk) (air : Air) → Fit d → is_running d.walk ≡ false → desk_after d air ≡ d
unfolding desk_after
ended_stays d air f e =
    ap (λ (x : Hearing). record { walk = x.walk; list = x.list }) (ended_heard d.walk (air_kind air) (air_bytes air) d.list f.accepted e)

pub played_ended : (n : ℕ) (d : Desk) (row : List Card) → Fit d → is_running d.walk ≡ false → (played_for n (play_of d row)).desk ≡ d
unfolding played_for slot_played
played_ended zero d row f e = refl
played_ended (suc n) d row f e =
    ap (λ (x : Desk). (played_for n (play_of x (row_after d.walk row))).desk) (ended_stays d (row_air d.walk still_air row) f e)
    ∙ played_ended n d (row_after d.walk row) f e

-- ---- what a slot draws

drawn_more : (m : ℕ) (p : Played) → is_running p.desk.walk ≡ true
    → slot_drawn p.desk.walk (row_air p.desk.walk still_air p.row) (slot_played p).desk.walk ++ drawn_for m (slot_played p) ≡ drawn_for (suc m) p
unfolding drawn_for
drawn_more m p e = rw e refl

pub slot_drawn_lem : (m n : ℕ) (row : List Card) (desk : Desk) (s : Slotted) → is_running desk.walk ≡ true → s ≡ slotted row n desk
    → slot_drawn desk.walk s.air s.desk.walk ++ drawn_for m (play_of s.desk (take n s.row)) ≡ drawn_for (suc m) (play_of desk (take n row))
unfolding slotted slot_air slot_played
slot_drawn_lem m n row desk s running is =
    ap (λ (t : Slotted). slot_drawn desk.walk t.air t.desk.walk ++ drawn_for m (play_of s.desk (take n s.row))) is
    ∙ ap (λ (p : Played). slot_drawn desk.walk (row_air desk.walk still_air (take n row)) (slotted row n desk).desk.walk ++ drawn_for m p)
    (slot_of_first row n desk s is)
    ∙ drawn_more m (play_of desk (take n row)) running

pub slotted_fit : (row : List Card) (n : ℕ) (desk : Desk) (s : Slotted) → Fit desk → s ≡ slotted row n desk → Fit s.desk
unfolding slotted
slotted_fit row n desk s f is = subst (λ (t : Slotted). Fit t.desk) (sym is) (after_fit desk (slot_air desk.walk n row) f)
