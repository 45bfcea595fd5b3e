-- How many answers are in the air of a slot: none, one, or two or more of the cards that it calls. By induction over the row.
-- Assumes nothing.
use mathlib.Core.Path.{◌≡◌, refl, ap, ◌∙◌}
use mathlib.Core.Bool.{Bool, true, false, cond}
use Prim.Native.Nat.{ℕ, suc}
use native.Mathlib.Omega.{arith}
use mathlib.Core.List.{List, [], ◌∷◌}
use borrow.Author.Tests.{ne_eqb}
use lib.Dec.{eqb}
use lib.ListN.{length}
use Rattle.card.specs.declared.Card.{Card}
use Rattle.card.specs.declared.Turn.{Turn}
use Rattle.card.specs.Inventory.{present}
use Rattle.walk.specs.declared.Walk.{Walk}
use Rattle.walk.specs.Record.{whole_mask}
use Rattle.play.specs.Life.{Tag}
use Rattle.field.specs.Demand.{cards}
use Rattle.field.proofs.Called.{slot_of}
use Rattle.field.proofs.InTime.{in_step, calls, Both, none, more}
use Rattle.field.proofs.Callers.{callers, uids}
use Rattle.row.specs.declared.Air.{Air}
use Rattle.row.specs.Row.{turn_of, still_air, crowded, air_with, row_air}
use Rattle.picture.specs.Drawn.{sign}
use Rattle.meaning.specs.Signs.{sign_of, sign_for}
use Rattle.meaning.proofs.CardTurned.{stepped}
use Rattle.meaning.proofs.RowTurned.{Turned}

-- the answers with those of the cards cs, 2 for two or more
unfoldable answered : ℕ → List Card → ℕ
answered a [] = a
answered a (c ∷ cs) = answered (cond (eqb a 0) 1 2) cs

answers_with : (air : Air) (c : Card) (b : Bool) → (air_with air c (present b)).answers ≡ cond b (cond (eqb air.answers 0) 1 2) air.answers
unfolding air_with present crowded
answers_with air c false = refl
answers_with air c true = go (eqb air.answers 0)
  where
    go : (b : Bool) → (cond {A = Air} b (record { answers = 1; dsfid = c.dsfid; uid = c.uid }) (crowded air)).answers ≡ cond b 1 2
    go true = refl
    go false = refl

row_answers : (w : Walk) (air : Air) (ts₀ ts : List Tag) → Both (Turned w) ts₀ ts
    → (row_air w air (cards ts)).answers ≡ answered air.answers (callers w.family w ts₀)
unfolding row_air answered cards callers Turned stepped
row_answers w air [] [] none = refl
row_answers w air [] (t ∷ ts) h = elim h [ ]
row_answers w air (t₀ ∷ ts₀) [] h = elim h [ ]
row_answers w air (t₀ ∷ ts₀) (t ∷ ts) (more h hs) =
    row_answers w (air_with air (turn_of w t.card).card (turn_of w t.card).reply) ts₀ ts hs
    ∙ ap (λ (u : Turn). answered (air_with air u.card u.reply).answers (callers w.family w ts₀)) h
    ∙ ap (λ (a : ℕ). answered a (callers w.family w ts₀))
    (answers_with air (in_step w.family w.level (whole_mask w) w.slot t₀.card) (calls w.family w t₀.card))
    ∙ go (calls w.family w t₀.card)
  where
    go : (b : Bool) → answered (cond b (cond (eqb air.answers 0) 1 2) air.answers) (callers w.family w ts₀)
        ≡ answered air.answers (cond b (t₀.card ∷ callers w.family w ts₀) (callers w.family w ts₀))
    go true = refl
    go false = refl

-- two or more stay two or more
many_answered : (cs : List Card) → answered 2 cs ≡ 2
unfolding answered
many_answered [] = refl
many_answered (c ∷ cs) = many_answered cs

sign_answered : (air : Air) (cs : List Card) → air.answers ≡ answered 0 cs → sign air ≡ sign_for (length (uids cs))
unfolding sign sign_for answered uids
sign_answered air [] e = rw e
sign_answered air (c ∷ []) e = rw e
sign_answered air (c ∷ d ∷ cs) e =
    rw (e, many_answered cs, ne_eqb (suc (suc (length (uids cs)))) 0 (λ z. absurd (omega arith)), ne_eqb (suc (suc (length (uids cs)))) 1 (λ z. absurd (omega arith)))
    refl

-- the cards that are called
pub sign_callers : (w : Walk) (ts₀ ts : List Tag) → Both (Turned w) ts₀ ts
    → sign (row_air w still_air (cards ts)) ≡ sign_for (length (uids (callers w.family w ts₀)))
unfolding still_air
sign_callers w ts₀ ts hears = sign_answered (row_air w still_air (cards ts)) (callers w.family w ts₀) (row_answers w still_air ts₀ ts hears)

-- the same sign for the slot that UIDs bring
pub sign_slot : (us : List ℕ) → sign_of (slot_of us) ≡ sign_for (length us)
unfolding sign_of sign_for slot_of
sign_slot [] = refl
sign_slot (u ∷ []) = refl
sign_slot (u ∷ v ∷ us) = rw (ne_eqb (suc (suc (length us))) 0 (λ z. absurd (omega arith)), ne_eqb (suc (suc (length us))) 1 (λ z. absurd (omega arith))) refl
