-- The cards that the walk's slot calls: their UIDs are those that end in mask and slot, and their messages are judged as those UIDs.
-- By induction over the row; a mask and a slot are a tail of one digit more. Assumes nothing.
use mathlib.Core.Path.{◌≡◌, refl, sym, ap}
use mathlib.Core.Bool.{Bool, true, false, cond, ◌&&◌, and-eq-true_iff}
use Prim.Native.Nat.{ℕ, suc, ◌+◌, ◌*◌, ◌%◌, ◌^◌, ◌<◌}
use mathlib.Core.List.{List, [], ◌∷◌}
use lib.Dec.{eqb}
use Rattle.tails.specs.Tails.{ending}
use Rattle.tails.proofs.Digits.{digits_of_bits, above_fits}
use Rattle.slots.specs.Fits.{fits_mask, fits_slot}
use Rattle.card.specs.declared.Card.{Card}
use Rattle.walk.specs.declared.Walk.{Walk}
use Rattle.walk.specs.Record.{levels_of, mask_length, whole_mask}
use Rattle.walk.specs.Hear.{judged}
use Rattle.play.specs.Life.{Tag}
use Rattle.field.specs.Field.{answers, answering, arrives}
use Rattle.field.specs.Demand.{AllObey}
use Rattle.field.specs.Demand as demand
use Rattle.field.proofs.Called.{called, slot_heard}
use Rattle.field.proofs.InTime.{calls}
use Rattle.field.proofs.Reply.{message, message_uid, message_clean}

unfoldable pub callers : ℕ → Walk → List Tag → List Card
callers family w [] = []
callers family w (t ∷ ts) = cond (calls family w t.card) (t.card ∷ callers family w ts) (callers family w ts)

unfoldable pub messages : List Card → List (List ℕ)
messages [] = []
messages (c ∷ cs) = message c ∷ messages cs

unfoldable pub uids : List Card → List ℕ
uids [] = []
uids (c ∷ cs) = c.uid ∷ uids cs

-- ---- their UIDs

-- a mask and the slot above it are a tail
pub slot_tail_lem : (uid level mask slot : ℕ) → mask < 2 ^ mask_length level → slot < 16
    → fits_slot uid (mask_length level) mask slot ≡ eqb (uid % 16 ^ suc level) (mask + slot * 16 ^ level)
unfolding fits_slot fits_mask mask_length
slot_tail_lem uid level mask slot h g = rw (digits_of_bits level) (sym (above_fits uid level mask slot (rw (digits_of_bits level) at h) g))

pub called_callers : (family : ℕ) (w : Walk) (ts : List Tag) → whole_mask w < 2 ^ mask_length w.level → w.slot < 16
    → called (answering family ts) w ≡ uids (callers family w ts)
unfolding called answering ending callers uids calls
called_callers family w [] h g = refl
called_callers family w (t ∷ ts) h g = go (answers family t.card) (called_callers family w ts h g)
  where
    uid : ℕ
    uid = t.card.uid

    either : (b : Bool) → called (answering family ts) w ≡ uids (callers family w ts)
        → cond b (uid ∷ called (answering family ts) w) (called (answering family ts) w)
        ≡ uids (cond b (t.card ∷ callers family w ts) (callers family w ts))
    either true rest = ap (λ (us : List ℕ). uid ∷ us) rest
    either false rest = rest

    go : (b : Bool) → called (answering family ts) w ≡ uids (callers family w ts)
        → called (cond b (uid ∷ answering family ts) (answering family ts)) w
        ≡ uids (cond (b && fits_slot uid (mask_length w.level) (whole_mask w) w.slot) (t.card ∷ callers family w ts) (callers family w ts))
    go true rest =
        rw (slot_tail_lem uid w.level (whole_mask w) w.slot h g)
        (either (eqb (uid % 16 ^ suc w.level) (whole_mask w + w.slot * 16 ^ w.level)) rest)
    go false rest = rest

-- ---- what their messages are judged to be

pub data AllFit (w : Walk) : List Card → Type 0 where
  none : AllFit w []
  more : {c : Card} {cs : List Card} → fits_slot c.uid (mask_length w.level) (whole_mask w) w.slot ≡ true → c.uid < 2 ^ 64 → AllFit w cs
      → AllFit w (c ∷ cs)

pub callers_fit : (family : ℕ) (w : Walk) (ts : List Tag) → AllObey ts → AllFit w (callers family w ts)
unfolding callers calls
callers_fit family w [] demand.none = none
callers_fit family w (t ∷ ts) (demand.more o os) = go (calls family w t.card) refl (callers_fit family w ts os)
  where
    go : (b : Bool) → calls family w t.card ≡ b → AllFit w (callers family w ts)
        → AllFit w (cond b (t.card ∷ callers family w ts) (callers family w ts))
    go true e rest =
        let fits : Bool = fits_slot t.card.uid (mask_length w.level) (whole_mask w) w.slot in
        more ((and-eq-true_iff (answers family t.card) fits).0 e).1 o.uid_fits rest
    go false e rest = rest

-- one that does not begin with E0 is judged as a clash
pub callers_judged : (w : Walk) (cs : List Card) → AllFit w cs
    → judged w (arrives (messages cs)).kind (arrives (messages cs)).bytes ≡ slot_heard (levels_of w) (uids cs)
unfolding judged arrives messages slot_heard uids
callers_judged w [] none = refl
callers_judged w (c ∷ []) (more fits uid-fits none) = rw (message_clean w c uid-fits, fits, message_uid c uid-fits)
callers_judged w (c ∷ d ∷ cs) fit = refl
