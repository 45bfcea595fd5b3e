-- A row of cards in time with the walk: each card is in step, and what is in the air is judged to be the UIDs that mask and slot call.
-- By induction over the row, from what one card does. Assumes nothing.
use mathlib.Core.Path.{◌≡◌, refl, sym, ap, ap₂, ◌∙◌}
use mathlib.Core.Bool.{Bool, true, false, cond}
use Prim.Native.Nat.{ℕ, zero, suc, ◌<◌}
use native.Mathlib.Omega.{arith}
use mathlib.Core.List.{List, [], ◌∷◌}
use lib.ListN.{length}
use Rattle.card.specs.declared.Card.{Card}
use Rattle.card.specs.declared.Turn.{Turn}
use Rattle.card.specs.declared.Reply.TheVariants.{Present}
use Rattle.card.specs.declared.Sequence.TheVariants.{Running}
use Rattle.card.specs.Record.{cleared, in_sequence, remade}
use Rattle.card.specs.Inventory.{present}
use Rattle.walk.specs.declared.Walk.{Walk}
use Rattle.walk.specs.declared.Kind.TheVariants as kind
use Rattle.walk.specs.Record.{levels_of, mask_length, whole_mask, is_accepted, is_running}
use Rattle.walk.specs.Hear.{judged}
use Rattle.walk.proofs.Limits.{Accepted, accepted_of_is_accepted}
use Rattle.play.specs.Life.{Tag}
use Rattle.field.specs.Field.{answers, answering, arrives}
use Rattle.field.specs.Demand.{AllObey, card_left, cards_left, cards}
use Rattle.field.proofs.Called.{called, slot_of, slot_heard, Starts}
use Rattle.field.proofs.InTime.{in_step, calls, Both, none, more, Before}
use Rattle.field.proofs.Reply.{message, message_bytes}
use Rattle.field.proofs.Callers.{callers, messages, uids, AllFit, callers_fit, callers_judged, called_callers}
use Rattle.field.proofs.RowHeard.{both_map}
use Rattle.row.specs.declared.Air.{Air}
use Rattle.row.specs.Row.{turn_of, still_air, crowded, air_with, row_air, row_after, air_kind, air_bytes}
use Rattle.field.proofs.PlayedSlot.{starts_heard}
use Rattle.meaning.proofs.CardTurned.{stepped, request_turned, mark_turned}

-- a tag t that was t₀ at the start: its card hears
unfoldable pub Turned : Walk → Tag → Tag → Type 0
Turned w t₀ t = turn_of w t.card ≡ stepped w t₀.card

pub row_turned : (w : Walk) (ts₀ ts : List Tag) → AllObey ts₀ → is_accepted w ≡ true → w.level < 16 → is_running w ≡ true
    → Before w.family w.level (whole_mask w) w.slot ts₀ ts → Both (Turned w) ts₀ ts
unfolding Before Turned
row_turned w ts₀ ts obey accepted level running before = go w.slot refl before
  where
    go : (s : ℕ) → w.slot ≡ s → Before w.family w.level (whole_mask w) s ts₀ ts → Both (Turned w) ts₀ ts
    go zero e b = both_map ts₀ ts obey (λ t₀ t o f. request_turned w t₀.card t.card accepted level running e f.card) b
    go (suc s) e b = both_map ts₀ ts obey (λ t₀ t o a. mark_turned w s t₀.card t.card accepted running e a.card) b

-- ---- what becomes of the cards

pub row_left : (w : Walk) (ts₀ ts : List Tag) → Both (Turned w) ts₀ ts → row_after w (cards ts) ≡ cards_left w.family w ts₀
unfolding row_after cards cards_left card_left Turned stepped in_step
row_left w [] [] none = refl
row_left w [] (t ∷ ts) h = elim h [ ]
row_left w (t₀ ∷ ts₀) [] h = elim h [ ]
row_left w (t₀ ∷ ts₀) (t ∷ ts) (more h hs) =
    ap₂ (λ (c : Card) (cs : List Card). c ∷ cs) (ap (λ (u : Turn). u.card) h) (row_left w ts₀ ts hs)

-- ---- what is in the air

-- these cards answer, one after the other
unfoldable air_of : Air → List Card → Air
air_of air [] = air
air_of air (c ∷ cs) = air_of (air_with air c Present) cs

-- a card in step has the same UID and DSFID
step_air : (w : Walk) (air : Air) (c : Card) → air_with air (in_step w.family w.level (whole_mask w) w.slot c) Present ≡ air_with air c Present
unfolding air_with in_step cleared in_sequence remade
step_air w air c = go (answers w.family c)
  where
    go : (b : Bool) → air_with air (cond b (in_sequence (Running w.slot (mask_length w.level) (whole_mask w)) (cleared c)) (cleared c)) Present
        ≡ air_with air c Present
    go true = refl
    go false = refl

stepped_air : (w : Walk) (air : Air) (c : Card)
    → air_with air (stepped w c).card (stepped w c).reply ≡ cond (calls w.family w c) (air_with air c Present) air
unfolding stepped present air_with
stepped_air w air c = go (calls w.family w c)
  where
    go : (b : Bool) → air_with air (in_step w.family w.level (whole_mask w) w.slot c) (present b) ≡ cond b (air_with air c Present) air
    go true = step_air w air c
    go false = refl

row_air_lem : (w : Walk) (air : Air) (ts₀ ts : List Tag) → Both (Turned w) ts₀ ts → row_air w air (cards ts) ≡ air_of air (callers w.family w ts₀)
unfolding row_air air_of cards callers Turned
row_air_lem w air [] [] none = refl
row_air_lem w air [] (t ∷ ts) h = elim h [ ]
row_air_lem w air (t₀ ∷ ts₀) [] h = elim h [ ]
row_air_lem w air (t₀ ∷ ts₀) (t ∷ ts) (more h hs) =
    ap (λ (u : Turn). row_air w (air_with air u.card u.reply) (cards ts)) h
    ∙ ap (λ (x : Air). row_air w x (cards ts)) (stepped_air w air t₀.card)
    ∙ go (calls w.family w t₀.card) (λ x. row_air_lem w x ts₀ ts hs)
  where
    go : (b : Bool) → ((x : Air) → row_air w x (cards ts) ≡ air_of x (callers w.family w ts₀))
        → row_air w (cond b (air_with air t₀.card Present) air) (cards ts)
        ≡ air_of air (cond b (t₀.card ∷ callers w.family w ts₀) (callers w.family w ts₀))
    go true later = later (air_with air t₀.card Present)
    go false later = later air

-- two or more stay two or more
crowd_stays : (air : Air) (cs : List Card) → air.answers ≡ 2 → (air_of air cs).answers ≡ 2
unfolding air_of air_with crowded
crowd_stays air [] e = e
crowd_stays air (c ∷ cs) e = crowd_stays (air_with air c Present) cs (rw e)

crowd_judged : (w : Walk) (bytes : List ℕ) (air : Air) → air.answers ≡ 2 → judged w (air_kind air) bytes ≡ judged w (air_kind (crowded air)) bytes
unfolding air_kind crowded
crowd_judged w bytes air e = rw e

-- a single answer is the card's message
single_bytes : (c : Card) → air_bytes (air_with still_air c Present) ≡ message c
unfolding air_bytes air_with still_air
single_bytes c = sym (message_bytes c)

air_judged : (w : Walk) (cs : List Card) → AllFit w cs
    → judged w (air_kind (air_of still_air cs)) (air_bytes (air_of still_air cs)) ≡ slot_heard (levels_of w) (uids cs)
unfolding air_of air_with still_air crowded air_kind judged arrives messages slot_heard uids
air_judged w [] fit = refl
air_judged w (c ∷ []) fit = ap (judged w kind.Bytes) (single_bytes c) ∙ callers_judged w (c ∷ []) fit
air_judged w (c ∷ d ∷ cs) fit =
    crowd_judged w _ (air_of (air_with (air_with still_air c Present) d Present) cs)
    (crowd_stays (air_with (air_with still_air c Present) d Present) cs refl)

pub row_judged : (w : Walk) (ts₀ ts : List Tag) → AllObey ts₀ → Starts (length w.marks) (answering w.family ts₀) → is_accepted w ≡ true
    → Both (Turned w) ts₀ ts
    → judged w (air_kind (row_air w still_air (cards ts))) (air_bytes (row_air w still_air (cards ts))) ≡ slot_of (called (answering w.family ts₀) w)
unfolding levels_of
row_judged w ts₀ ts obey starts accepted hears =
    let facts : Accepted w = accepted_of_is_accepted w accepted in
    rw (row_air_lem w still_air ts₀ ts hears)
    (air_judged w (callers w.family w ts₀) (callers_fit w.family w ts₀ obey)
    ∙ ap (slot_heard (levels_of w)) (sym (called_callers w.family w ts₀ facts.mask (omega (arith, facts.slot))))
    ∙ starts_heard (length w.marks) (answering w.family ts₀) (called (answering w.family ts₀) w) w starts refl)
