-- A row that has been heard up to a place: what the rest of it adds from here is what the whole adds from the start.
--     partly_none      nothing heard.        partly_more      one card more.        partly_air, partly_row     the whole row
-- Assumes nothing.
use Prim.Native.Nat.{ℕ, suc, ◌+◌, ◌≤◌, ◌<◌}
use native.Mathlib.Nat.{le_refl}
use native.Mathlib.Omega.{arith}
use mathlib.Core.List.{List, [], ◌∷◌, ◌++◌, append-nil}
use mathlib.Core.Path.{◌≡◌, refl, sym, ◌∙◌, ap, subst}
use lib.ListN.{length, get_or, set, take, drop, length-set, drop_of_length-le}
use lib.Seq.{take_all, drop-cons, drop-set-lt, take-suc-set, append_snoc}
use Rattle.card.specs.declared.Card.{Card}
use Rattle.card.specs.declared.Turn.{Turn}
use Rattle.walk.specs.declared.Walk.{Walk}
use Rattle.row.specs.declared.Air.{Air}
use Rattle.row.specs.Row.{turn_of, still_air, air_with, row_air, row_after}

pub record Partly (w : Walk) (ys : List Card) (i : ℕ) (row : List Card) (air : Air) : Type 0 where
  pub within : i ≤ length ys
  pub long : length row ≡ length ys
  pub air_left : row_air w air (drop i row) ≡ row_air w still_air ys
  pub row_left : take i row ++ row_after w (drop i row) ≡ row_after w ys

pub partly_none : (w : Walk) (ys : List Card) → Partly w ys 0 ys still_air
partly_none w ys = record { within = omega arith; long = refl; air_left = refl; row_left = refl }

module _ (w : Walk) (ys : List Card) (i : ℕ) (row : List Card) (air : Air) (p : Partly w ys i row air) where
  pub place_within : i < length ys → i < length row
  place_within l = subst (λ (m : ℕ). i < m) (sym p.long) l

  pub partly_more : (d : Card) (r : Turn) (next : Air) → i < length ys → r ≡ turn_of w (get_or row i d) → next ≡ air_with air r.card r.reply
      → Partly w ys (i + 1) (set row i r.card) next
  unfolding row_air row_after
  partly_more d r next l h e =
      record {
        within = omega (arith, l);
        long = length-set row i r.card ∙ p.long;
        air_left = ap (λ (j : ℕ). row_air w next (drop j (set row i r.card))) one
            ∙ ap (λ (cs : List Card). row_air w next cs) (drop-set-lt (suc i) row i r.card (le_refl (suc i)))
            ∙ ap (λ (a : Air). row_air w a (drop (suc i) row)) (e ∙ ap (λ (t : Turn). air_with air t.card t.reply) h)
            ∙ ap (λ (cs : List Card). row_air w air cs) (sym (drop-cons row i d (place_within l)))
            ∙ p.air_left;
        row_left = ap (λ (j : ℕ). take j (set row i r.card) ++ row_after w (drop j (set row i r.card))) one
            ∙ ap (λ (cs : List Card). cs ++ row_after w (drop (suc i) (set row i r.card))) (take-suc-set row i r.card (place_within l))
            ∙ ap (λ (cs : List Card). take i row ++ (r.card ∷ []) ++ row_after w cs) (drop-set-lt (suc i) row i r.card (le_refl (suc i)))
            ∙ append_snoc (take i row) r.card (row_after w (drop (suc i) row))
            ∙ ap (λ (c : Card). take i row ++ c ∷ row_after w (drop (suc i) row)) (ap (λ (t : Turn). t.card) h)
            ∙ ap (λ (cs : List Card). take i row ++ row_after w cs) (sym (drop-cons row i d (place_within l)))
            ∙ p.row_left;
      }
    where
      one : i + 1 ≡ suc i
      one = omega arith

  none_left : length ys ≤ i → drop i row ≡ []
  none_left l = drop_of_length-le row (subst (λ (m : ℕ). m ≤ i) (sym p.long) l)

  pub partly_air : length ys ≤ i → air ≡ row_air w still_air ys
  unfolding row_air
  partly_air l = ap (λ (cs : List Card). row_air w air cs) (sym (none_left l)) ∙ p.air_left

  pub partly_row : length ys ≤ i → row ≡ row_after w ys
  unfolding row_after
  partly_row l =
      sym (append-nil row) ∙ ap (λ (cs : List Card). cs ++ []) (sym (take_all i row (subst (λ (m : ℕ). m ≤ i) (sym p.long) l)))
      ∙ ap (λ (cs : List Card). take i row ++ row_after w cs) (sym (none_left l)) ∙ p.row_left
