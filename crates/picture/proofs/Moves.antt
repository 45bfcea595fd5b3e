-- What a slot does to a walk's place: it ends, or stands at the next slot, or after slot 15 at the first slot of a round more.
-- By the changes of the definition. Assumes nothing.
use mathlib.Core.Path.{◌≡◌, refl, sym, ap, subst, ◌∙◌}
use mathlib.Core.Bool.{Bool, true, false, cond}
use Prim.Native.Nat.{ℕ, zero, suc, ◌+◌, ◌≤◌, ◌<◌}
use native.Mathlib.Omega.{arith}
use borrow.Author.Tests.{ltb-true, ltb-false}
use lib.Dec.{ltb, eqb}
use lib.ListN.{length}
use Rattle.walk.specs.declared.Walk.{Walk}
use Rattle.walk.specs.declared.Slot.{Slot}
use Rattle.walk.specs.declared.Slot.TheVariants.{Silent, Clashed, Clean}
use Rattle.walk.specs.Marks.{levels, deepest}
use Rattle.walk.specs.Record.{levels_of, most_rounds, is_running, is_accepted, remade, ended, counted, marked, at_next_slot, opened_at, opened, started}
use Rattle.walk.specs.Hear.{Hearing, refusal, judged, has_place, ends_at_once, noted, turned, passed, walk_after, hearing}
use Rattle.walk.proofs.LevelsStay.{levels_started, levels_heard}
use Rattle.walk.proofs.Accepted.{started_accepted, heard_accepted}
use Rattle.walk.proofs.HearWays.{places_after, walk_heard}
use Rattle.row.specs.declared.Air.{Air}
use Rattle.row.specs.declared.Desk.{Desk}
use Rattle.row.specs.Row.{air_kind, air_bytes, desk_after}
use Rattle.row.specs.Play.{no_uids, fresh_desk}

pub data Moves (w next : Walk) : Type 0 where
  stops : is_running next ≡ false → Moves w next
  steps : w.slot < 15 → next.slot ≡ w.slot + 1 → next.rounds ≡ w.rounds → Moves w next
  opens : w.slot ≡ 15 → next.slot ≡ 0 → next.rounds ≡ w.rounds + 1 → Moves w next

by_test : (b : Bool) (w x y : Walk) → (b ≡ true → Moves w x) → (b ≡ false → Moves w y) → Moves w (cond b x y)
by_test true w x y p q = p refl
by_test false w x y p q = q refl

module _ (w : Walk) (inside : w.slot ≤ 15) where
  turned_moves : (n : ℕ) → w.slot ≡ 15 → Moves w (turned w n)
  unfolding turned ended opened opened_at remade is_running
  turned_moves zero last = stops refl
  turned_moves (suc j) last = by_test (ltb w.rounds (most_rounds (levels_of w))) w _ _ (λ e. opens last refl refl) (λ e. stops refl)

  passed_moves : Moves w (passed w)
  unfolding passed at_next_slot remade
  passed_moves =
      by_test (ltb w.slot 15) w _ _ (λ e. steps (ltb-true w.slot 15 e) refl refl)
      (λ e. let past : 15 ≤ w.slot = ltb-false w.slot 15 e in turned_moves (deepest w.marks) (omega arith))

-- what is noted leaves slot and rounds
alike : {x w next : Walk} → x.slot ≡ w.slot → x.rounds ≡ w.rounds → Moves x next → Moves w next
alike s r (stops e) = stops e
alike s r (steps h e f) = steps (omega (arith, s)) (omega (arith, s, e)) (f ∙ r)
alike s r (opens h e f) = opens (sym s ∙ h) e (omega (arith, r, f))

noted_moves : (w : Walk) (slot : Slot) → w.slot ≤ 15 → Moves w (passed (noted w slot))
unfolding noted marked counted remade
noted_moves w Silent h = passed_moves w h
noted_moves w Clashed h = alike refl refl (passed_moves (marked w) h)
noted_moves w (Clean uid) h = alike refl refl (passed_moves (counted w) h)

after_moves : (w : Walk) (slot : Slot) (place : Bool) → w.slot ≤ 15 → Moves w (walk_after w slot place)
unfolding walk_after ended remade is_running
after_moves w slot place h = by_test (eqb (ends_at_once w slot place) 0) w _ _ (λ e. noted_moves w slot h) (λ e. stops e)

-- ---- a desk whose walk is accepted and has fourteen levels at the most, with a list of 64 places

pub record Fit (d : Desk) : Type 0 where
  pub accepted : is_accepted d.walk ≡ true
  pub few : length d.walk.marks ≤ 14
  pub places : length d.list ≡ 64

pub fresh_fit : Fit fresh_desk
unfolding fresh_desk no_uids started levels
fresh_fit = record { accepted = started_accepted 256; few = omega (arith, levels_started levels 256); places = refl }

length_heard : (b : Bool) (x y : Hearing) (n : ℕ) → length x.list ≡ n → length y.list ≡ n → length (cond b x y).list ≡ n
length_heard true x y n p q = p
length_heard false x y n p q = q

pub after_fit : (d : Desk) (air : Air) → Fit d → Fit (desk_after d air)
unfolding desk_after hearing
after_fit d air f =
    let w : Walk = d.walk in
    record {
      accepted = heard_accepted w (air_kind air) (air_bytes air) d.list f.accepted;
      few = omega (arith, levels_heard w (air_kind air) (air_bytes air) d.list, f.few);
      places = length_heard (eqb (refusal w (length d.list)) 0) _ _ 64
          (places_after w (judged w (air_kind air) (air_bytes air)) (has_place w) w.count d.list ∙ f.places) f.places;
    }

pub desk_moves : (d : Desk) (air : Air) → Fit d → is_running d.walk ≡ true → d.walk.slot ≤ 15 → Moves d.walk (desk_after d air).walk
unfolding desk_after
desk_moves d air f running h =
    let w : Walk = d.walk in
    let heard = walk_heard w (air_kind air) (air_bytes air) d.list f.accepted running (omega (arith, f.places)) in
    subst (Moves w) (sym (ap (λ (x : Hearing). x.walk) heard)) (after_moves w (judged w (air_kind air) (air_bytes air)) (has_place w) h)
