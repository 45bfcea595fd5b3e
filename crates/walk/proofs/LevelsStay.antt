-- A walk keeps its levels: a fresh one has as many as it is started with, and whatever is heard leaves as many marks as there were.
-- By the changes of the record, of which each stores one mark at the most. Assumes nothing.
use mathlib.Core.Path.{◌≡◌, refl}
use mathlib.Core.Bool.{Bool, true, false, cond}
use mathlib.Core.List.{List}
use Prim.Native.Nat.{ℕ, zero, suc}
use lib.Dec.{ltb, eqb}
use lib.ListN.{length, length-set, length-replicate}
use Rattle.walk.specs.declared.Walk.{Walk}
use Rattle.walk.specs.declared.Kind.{Kind}
use Rattle.walk.specs.declared.Slot.{Slot}
use Rattle.walk.specs.declared.Slot.TheVariants.{Silent, Clashed, Clean}
use Rattle.walk.specs.Marks.{deepest}
use Rattle.walk.specs.Record.{levels_of, most_rounds, remade, ended, counted, marked, at_next_slot, opened_at, opened, no_marks, started_of}
use Rattle.walk.specs.Hear.{judged, has_place, ends_at_once, noted, turned, passed, walk_after, refusal, Hearing, hearing}
use Rattle.walk.specs.Shared.{hear_refusal, has_row, SharedHearing, shared_hearing}

pub levels_started : (levels family : ℕ) → length (started_of levels family).marks ≡ levels
unfolding started_of no_marks
levels_started levels family = length-replicate levels 0

-- by a test, either way
by_test : (b : Bool) (n : ℕ) (x y : Walk) → length x.marks ≡ n → length y.marks ≡ n → length (cond b x y).marks ≡ n
by_test true n x y p q = p
by_test false n x y p q = q

pub levels_ended : (ending : ℕ) (w : Walk) → length (ended ending w).marks ≡ length w.marks
unfolding ended remade
levels_ended ending w = refl

pub levels_opened : (w : Walk) (j : ℕ) → length (opened w j).marks ≡ length w.marks
unfolding opened opened_at remade
levels_opened w j = length-set w.marks j _

pub levels_noted : (w : Walk) (slot : Slot) → length (noted w slot).marks ≡ length w.marks
unfolding noted counted marked remade
levels_noted w Silent = refl
levels_noted w Clashed = length-set w.marks w.level _
levels_noted w (Clean uid) = refl

pub levels_turned : (w : Walk) (n : ℕ) → length (turned w n).marks ≡ length w.marks
unfolding turned
levels_turned w zero = levels_ended 1 w
levels_turned w (suc j) = by_test (ltb w.rounds (most_rounds (levels_of w))) _ (opened w j) (ended 4 w) (levels_opened w j) (levels_ended 4 w)

pub levels_passed : (w : Walk) → length (passed w).marks ≡ length w.marks
unfolding passed at_next_slot remade
levels_passed w = by_test (ltb w.slot 15) _ (at_next_slot w) (turned w (deepest w.marks)) refl (levels_turned w (deepest w.marks))

pub levels_after : (w : Walk) (slot : Slot) (place : Bool) → length (walk_after w slot place).marks ≡ length w.marks
unfolding walk_after
levels_after w slot place =
    by_test (eqb (ends_at_once w slot place) 0) _ (passed (noted w slot)) (ended (ends_at_once w slot place) w)
    (rw (levels_passed (noted w slot)) (levels_noted w slot)) (levels_ended (ends_at_once w slot place) w)

-- by a test of a call, either way
heard_either : (b : Bool) (n : ℕ) (x y : Hearing) → length x.walk.marks ≡ n → length y.walk.marks ≡ n → length (cond b x y).walk.marks ≡ n
heard_either true n x y p q = p
heard_either false n x y p q = q

-- after a call, refused or not
pub levels_heard : (w : Walk) (kind : Kind) (bytes list : List ℕ) → length (hearing w kind bytes list).walk.marks ≡ length w.marks
unfolding hearing
levels_heard w kind bytes list = heard_either (eqb (refusal w (length list)) 0) _ _ _ (levels_after w (judged w kind bytes) (has_place w)) refl

-- on a shared list, by a test of a call, either way
shared_either : (b : Bool) (n : ℕ) (x y : SharedHearing) → length x.walk.marks ≡ n → length y.walk.marks ≡ n → length (cond b x y).walk.marks ≡ n
shared_either true n x y p q = p
shared_either false n x y p q = q

-- after a call on a shared list, refused or not
pub levels_shared : (w : Walk) (rack : ℕ) (kind : Kind) (bytes rows owners : List ℕ)
    → length (shared_hearing w rack kind bytes rows owners).walk.marks ≡ length w.marks
unfolding shared_hearing
levels_shared w rack kind bytes rows owners =
    shared_either (eqb (hear_refusal w rack (length rows) owners) 0) _ _ _ (levels_after w (judged w kind bytes) (has_row rack owners)) refl
