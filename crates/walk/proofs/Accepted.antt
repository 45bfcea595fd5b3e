-- Every record that a walk reaches is one that number 10 accepts: the first is, and after each slot, of any kind, it stays so, ended or not.
-- By what each change does to the eight facts of an accepted record. Assumes nothing.
use mathlib.Core.Path.{◌≡◌, refl}
use mathlib.Core.Bool.{Bool, true, false, cond}
use mathlib.Core.List.{List}
use Prim.Native.Nat.{ℕ, zero, suc, ◌+◌, ◌≤◌, ◌<◌}
use native.Mathlib.Omega.{arith}
use borrow.Author.Tests.{ltb-true, eqb-true}
use lib.Dec.{ltb, eqb}
use lib.ListN.{length, get_or, set, length-set}
use Rattle.walk.specs.declared.Walk.{Walk}
use Rattle.walk.specs.declared.Kind.{Kind}
use Rattle.walk.specs.declared.Slot.{Slot}
use Rattle.walk.specs.declared.Slot.TheVariants.{Silent, Clashed, Clean}
use Rattle.walk.specs.Marks.{levels, deepest, with_mark, without_mark, lowest}
use Rattle.walk.specs.Record.{levels_of, most_rounds, mask_length, whole_mask, opened_mask, is_accepted}
use Rattle.walk.specs.Record.{remade, ended, counted, marked, at_next_slot, opened_at, opened, no_marks, started_of, started}
use Rattle.walk.specs.Hear.{judged, has_place, ends_at_once, noted, turned, passed, walk_after, refusal, Hearing, hearing}
use Rattle.walk.specs.Shared.{hear_refusal, has_row, SharedHearing, shared_hearing}
use Rattle.walk.proofs.Levels.{lowest_is_slot, deepest_none, deepest_set}
use Rattle.walk.proofs.LevelsStay.{levels_started}
use Rattle.walk.proofs.Limits.{halves_whole, Accepted, accepted_of_is_accepted, is_accepted_of_accepted, opened_mask_fits}
use Rattle.walk.proofs.HearWays.{clash_goes_on, clean_goes_on, place_below}
use Rattle.walk.proofs.SharedWays.{shared_served_of, row_few}

pub started_facts : (levels family : ℕ) → 1 ≤ levels → Accepted (started_of levels family)
unfolding started_of whole_mask mask_length most_rounds
started_facts levels family h =
    let long : length (no_marks levels) ≡ levels = levels_started levels family in
    record {
      level = rw long (omega arith);
      slot = omega arith;
      count = omega arith;
      first_round = omega arith;
      last_round = rw long (omega arith);
      mask = omega arith;
      own_level = rw (deepest_none levels) (omega arith);
      last_level = rw (deepest_none levels, long) (omega arith);
    }

pub started_of_accepted : (levels family : ℕ) → 1 ≤ levels → is_accepted (started_of levels family) ≡ true
started_of_accepted levels family h = is_accepted_of_accepted (started_of levels family) (started_facts levels family h)

pub started_accepted : (family : ℕ) → is_accepted (started family) ≡ true
unfolding started levels
started_accepted family = started_of_accepted levels family (omega arith)

-- by a test, either way
by_test : (b : Bool) (x y : Walk) → (b ≡ true → Accepted x) → (b ≡ false → Accepted y) → Accepted (cond b x y)
by_test true x y p q = p refl
by_test false x y p q = q refl

module _ (w : Walk) (a : Accepted w) where
  pub ended_facts : (ending : ℕ) → Accepted (ended ending w)
  unfolding ended remade whole_mask
  ended_facts ending =
      record {
        level = a.level;
        slot = a.slot;
        count = a.count;
        first_round = a.first_round;
        last_round = a.last_round;
        mask = a.mask;
        own_level = a.own_level;
        last_level = a.last_level;
      }

  counted_facts : w.count < 64 → Accepted (counted w)
  unfolding counted remade whole_mask
  counted_facts h =
      record {
        level = a.level;
        slot = a.slot;
        count = omega arith;
        first_round = a.first_round;
        last_round = a.last_round;
        mask = a.mask;
        own_level = a.own_level;
        last_level = a.last_level;
      }

  marked_facts : w.level + 1 < length w.marks → Accepted (marked w)
  unfolding marked remade whole_mask
  marked_facts h =
      let m : ℕ = with_mark (get_or w.marks w.level 0) w.slot in
      let own = deepest_set w.marks w.level m (w.level + 1) (omega arith) a.own_level in
      let same : length (set w.marks w.level m) ≡ length w.marks = length-set w.marks w.level m in
      record {
        level = rw same a.level;
        slot = a.slot;
        count = a.count;
        first_round = a.first_round;
        last_round = rw same a.last_round;
        mask = a.mask;
        own_level = own;
        last_level = omega (arith, own, same);
      }

  pub next_slot_facts : w.slot < 15 → Accepted (at_next_slot w)
  unfolding at_next_slot remade whole_mask
  next_slot_facts h =
      record {
        level = a.level;
        slot = omega arith;
        count = a.count;
        first_round = a.first_round;
        last_round = a.last_round;
        mask = a.mask;
        own_level = a.own_level;
        last_level = a.last_level;
      }

  pub opened_facts : (j : ℕ) → deepest w.marks ≡ suc j → w.rounds < most_rounds (length w.marks) → Accepted (opened w j)
  unfolding opened opened_at remade whole_mask
  opened_facts j is h =
      let s : ℕ = lowest (get_or w.marks j 0) in
      let below : suc j < length w.marks = rw (← is) a.last_level in
      let same : length (set w.marks j (without_mark (get_or w.marks j 0) s)) ≡ length w.marks = length-set w.marks j (without_mark (get_or w.marks j 0) s) in
      let own = deepest_set w.marks j (without_mark (get_or w.marks j 0) s) (j + 1) (omega arith) (omega arith) in
      record {
        level = omega (arith, same, below);
        slot = omega arith;
        count = a.count;
        first_round = omega arith;
        last_round = rw same (omega arith);
        mask = rw (halves_whole (opened_mask (whole_mask w) j s)) (opened_mask_fits (whole_mask w) j s (lowest_is_slot (get_or w.marks j 0)));
        own_level = omega (arith, own);
        last_level = omega (arith, own, same, below);
      }

  turned_facts : (n : ℕ) → deepest w.marks ≡ n → Accepted (turned w n)
  unfolding turned levels_of
  turned_facts zero is = ended_facts 1
  turned_facts (suc j) is =
      by_test (ltb w.rounds (most_rounds (length w.marks))) (opened w j) (ended 4 w) (λ e. opened_facts j is (ltb-true w.rounds (most_rounds (length w.marks)) e)) (λ e. ended_facts 4)

  passed_facts : Accepted (passed w)
  unfolding passed
  passed_facts =
      by_test (ltb w.slot 15) (at_next_slot w) (turned w (deepest w.marks)) (λ e. next_slot_facts (ltb-true w.slot 15 e))
      (λ e. turned_facts (deepest w.marks) refl)

  -- where a place for a clean UID is one of 64
  module _ (place : Bool) (few : place ≡ true → w.count < 64) where
    pub noted_facts : (slot : Slot) → ends_at_once w slot place ≡ 0 → Accepted (noted w slot)
    unfolding noted
    noted_facts Silent e = a
    noted_facts Clashed e = marked_facts (clash_goes_on w place {slot = Clashed} refl e)
    noted_facts (Clean uid) e = counted_facts (few (clean_goes_on w {slot = Clean uid} {place = place} {uid = uid} refl e))

after_facts : (w : Walk) → Accepted w → (slot : Slot) (place : Bool) → (place ≡ true → w.count < 64) → Accepted (walk_after w slot place)
unfolding walk_after
after_facts w a slot place few =
    by_test (eqb (ends_at_once w slot place) 0) (passed (noted w slot)) (ended (ends_at_once w slot place) w)
    (λ e. passed_facts (noted w slot) (noted_facts w a place few slot (eqb-true (ends_at_once w slot place) 0 e))) (λ e. ended_facts w a (ends_at_once w slot place))

-- after a slot
pub after_accepted : (w : Walk) (slot : Slot) (place : Bool) → (place ≡ true → w.count < 64) → is_accepted w ≡ true → is_accepted (walk_after w slot place) ≡ true
after_accepted w slot place few h = is_accepted_of_accepted (walk_after w slot place) (after_facts w (accepted_of_is_accepted w h) slot place few)

-- with any ending
pub ended_accepted : (w : Walk) (ending : ℕ) → is_accepted w ≡ true → is_accepted (ended ending w) ≡ true
ended_accepted w ending h = is_accepted_of_accepted (ended ending w) (ended_facts w (accepted_of_is_accepted w h) ending)

-- by a test of a call, either way
heard_either : (b : Bool) (x y : Hearing) → is_accepted x.walk ≡ true → is_accepted y.walk ≡ true → is_accepted (cond b x y).walk ≡ true
heard_either true x y p q = p
heard_either false x y p q = q

-- after a call, refused or not
pub heard_accepted : (w : Walk) (kind : Kind) (bytes list : List ℕ) → is_accepted w ≡ true → is_accepted (hearing w kind bytes list).walk ≡ true
unfolding hearing
heard_accepted w kind bytes list h = heard_either (eqb (refusal w (length list)) 0) _ _ (after_accepted w (judged w kind bytes) (has_place w) (place_below w) h) h

-- on a shared list, by a test of a call, either way
shared_either : (b : Bool) (x y : SharedHearing) → (b ≡ true → is_accepted x.walk ≡ true) → is_accepted y.walk ≡ true
    → is_accepted (cond b x y).walk ≡ true
shared_either true x y p q = p refl
shared_either false x y p q = q

-- after a call on a shared list, refused or not
pub shared_accepted : (w : Walk) (rack : ℕ) (kind : Kind) (bytes rows owners : List ℕ) → is_accepted w ≡ true
    → is_accepted (shared_hearing w rack kind bytes rows owners).walk ≡ true
unfolding shared_hearing
shared_accepted w rack kind bytes rows owners h =
    let n : ℕ = hear_refusal w rack (length rows) owners in
    shared_either (eqb n 0) _ _
    (λ e. after_accepted w (judged w kind bytes) (has_row rack owners) (row_few w rack (length rows) owners (shared_served_of w rack (length rows) owners (eqb-true n 0 e))) h)
    h
