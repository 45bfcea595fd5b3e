-- Slots that have been played: what the rest of them makes of the desk and the row is what all make of them from the start. An ended walk stays as it is.
--     ended_stays, played_ended    hearing is refused.        playing_none, playing-more, playing_over     none played, one more, and no more to play
-- Assumes nothing.
use Prim.Native.Nat.{ℕ, zero, suc, ◌+◌, ◌-◌, ◌^◌, ◌≤◌, ◌<◌}
use native.Mathlib.Nat.{sub-zero}
use native.Mathlib.Omega.{arith}
use mathlib.Core.Bool.{Bool, true, false, cond, ◌&&◌, and-eq-true_iff}
use mathlib.Core.List.{List}
use mathlib.Core.Path.{◌≡◌, refl, sym, ◌∙◌, ap, subst}
use borrow.Author.Tests.{ltb-true, ltb-false, le-ltb, eqb-false, ne_eqb}
use lib.Dec.{T, ltb, eqb}
use lib.ListN.{take}
use Rattle.card.specs.declared.Card.{Card}
use Rattle.walk.specs.declared.Walk.{Walk}
use Rattle.walk.specs.declared.Kind.{Kind}
use Rattle.walk.specs.Marks.{levels}
use Rattle.walk.specs.Record.{most_rounds, most_slots, is_accepted, is_running}
use Rattle.walk.specs.Hear.{Hearing, refusal, hearing}
use Rattle.row.specs.declared.Air.{Air}
use Rattle.row.specs.declared.Desk.{Desk}
use Rattle.row.specs.Row.{still_air, row_air, row_after, air_kind, air_bytes, desk_after, slot_played, played_for, cards_of}
use Rattle.row.specs.Play.{fresh_desk, goes_on, ended}
use Rattle.row.proofs.Dealt.{take_cards}

hearing_ended : (w : Walk) (kind : Kind) (bytes list : List ℕ) → (w.ending ≡ 0 → ⊥) → hearing w kind bytes list ≡ record { walk = w; list = list; number = cond (is_accepted w) 6 10 }
unfolding hearing refusal is_running
hearing_ended w kind bytes list h = go (is_accepted w) refl
  where
    go : (a : Bool) → is_accepted w ≡ a → hearing w kind bytes list ≡ record { walk = w; list = list; number = cond (is_accepted w) 6 10 }
    go true e = rw (ne_eqb w.ending 0 h, e)
    go false e = rw (ne_eqb w.ending 0 h, e)

pub ended_stays : (d : Desk) (air : Air) → (d.walk.ending ≡ 0 → ⊥) → desk_after d air ≡ d
unfolding desk_after
ended_stays d air h = ap (λ (x : Hearing). record { walk = x.walk; list = x.list }) (hearing_ended d.walk (air_kind air) (air_bytes air) d.list h)

pub played_ended : (m : ℕ) (d : Desk) (row : List Card) → (d.walk.ending ≡ 0 → ⊥) → (played_for m (record { desk = d; row = row })).desk ≡ d
unfolding played_for slot_played
played_ended zero d row h = refl
played_ended (suc m) d row h =
    ap (λ (e : Desk). (played_for m (record { desk = e; row = row_after d.walk row })).desk) (ended_stays d (row_air d.walk still_air row) h) ∙ played_ended m d (row_after d.walk row) h

-- the slots can be counted in 32 bits
pub slots_fit : most_slots levels < 2 ^ 32
unfolding most_slots most_rounds levels
slots_fit = omega arith

-- k slots are played, and the rest of them ends at a desk
pub record Playing (end : Desk) (k : ℕ) (desk : Desk) (row : List Card) : Type 0 where
  pub slots : k ≤ most_slots levels
  pub desk_left : (played_for (most_slots levels - k) (record { desk = desk; row = row })).desk ≡ end

abbrev pub end_of : Desk → List Card → Desk
end_of desk row = (played_for (most_slots levels) (record { desk = desk; row = row })).desk

pub playing_none : (desk : Desk) (row : List Card) → Playing (end_of desk row) 0 desk row
playing_none desk row = record { slots = omega arith; desk_left = rw (sub-zero (most_slots levels)) }

pub end_of_dealt : (us : List ℕ) (n : ℕ) (desk : Desk) (row : List Card) → desk ≡ fresh_desk → row ≡ cards_of us → end_of desk (take n row) ≡ ended (take n us)
unfolding ended
end_of_dealt us n desk row d r = λ i. (played_for (most_slots levels) (record { desk = d i; row = (ap (take n) r ∙ take_cards n us) i })).desk

-- a slot more
pub playing_slot : (end : Desk) (k : ℕ) (desk next : Desk) (air : Air) (row left : List Card) → Playing end k desk row → k < most_slots levels
    → air ≡ row_air desk.walk still_air row → left ≡ row_after desk.walk row → next ≡ desk_after desk air → Playing end (k + 1) next left
unfolding played_for slot_played
playing_slot end k desk next air row left p l a r e =
    let one : suc (most_slots levels - (k + 1)) ≡ most_slots levels - k = omega (arith, l) in
    record {
      slots = omega (arith, l);
      desk_left = (λ i. (played_for (most_slots levels - (k + 1)) (record { desk = (e ∙ ap (desk_after desk) a) i; row = r i })).desk)
          ∙ ap (λ (m : ℕ). (played_for m (record { desk = desk; row = row })).desk) one ∙ p.desk_left;
    }

-- no more to play
pub playing_over : (end : Desk) (k : ℕ) (desk : Desk) (row : List Card) → Playing end k desk row → goes_on desk k ≡ false → desk ≡ end
unfolding played_for goes_on is_running
playing_over end k desk row p e = go (ltb k (most_slots levels)) (eqb desk.walk.ending 0) refl refl e
  where
    spent : most_slots levels ≤ k → 0 ≡ most_slots levels - k
    spent h = omega (arith, h)

    go : (a b : Bool) → ltb k (most_slots levels) ≡ a → eqb desk.walk.ending 0 ≡ b → (a && b) ≡ false → desk ≡ end
    go true true f g e = absurd (subst T e tt)
    go true false f g e = sym (played_ended (most_slots levels - k) desk row (eqb-false desk.walk.ending 0 g)) ∙ p.desk_left
    go false b f g e = ap (λ (m : ℕ). (played_for m (record { desk = desk; row = row })).desk) (spent (ltb-false k (most_slots levels) f)) ∙ p.desk_left

pub still_few : (desk : Desk) (k : ℕ) → goes_on desk k ≡ true → k < most_slots levels
unfolding goes_on
still_few desk k e = ltb-true k (most_slots levels) ((and-eq-true_iff (ltb k (most_slots levels)) _).0 e).0

-- all that a walk can have are played
pub all_played : (desk : Desk) (k : ℕ) → most_slots levels ≤ k → goes_on desk k ≡ false
unfolding goes_on
all_played desk k h = rw (le-ltb k (most_slots levels) h)
