-- The ways out of hearing a slot: refused, ended at once, or noted and passed. By the tests of the definitions. Assumes nothing.
use mathlib.Core.Path.{◌≡◌, refl, sym, ap, ◌∙◌}
use mathlib.Core.Bool.{Bool, true, false, cond}
use mathlib.Core.List.{List}
use Prim.Native.Nat.{ℕ, ◌+◌, ◌≤◌, ◌<◌}
use native.Mathlib.Omega.{arith}
use borrow.Author.Tests.{ltb-true, ltb-false, leb-true, le-leb, ne_eqb}
use lib.Dec.{leb, ltb, eqb}
use lib.ListN.{length, length-set}
use Rattle.std.specs.Prelude.{Option, Some, None, IfSome, is_some, unwrap_or, Ok, Err}
use Rattle.std.specs.Bool.{then_some}
use Rattle.refusals.specs.declared.Refusal.{Refusal}
use Rattle.refusals.specs.Number.{number, number_of}
use Rattle.refusals.proofs.Numbers.{number_is_some}
use Rattle.walk.specs.declared.Walk.{Walk}
use Rattle.walk.specs.declared.Kind.{Kind}
use Rattle.walk.specs.declared.Slot.{Slot}
use Rattle.walk.specs.declared.Slot.TheVariants.{Silent, Clashed, Clean}
use Rattle.walk.specs.Record.{places, levels_of, is_running, is_accepted, ended}
use Rattle.walk.specs.Hear.{judged, has_place, ends_at_once, noted, list_noted, passed, walk_after, list_after, refusal, hearing, walk_of, Hears}
use Rattle.walk.specs.declared.Ending.{Ending}
use Rattle.walk.specs.declared.Ending.TheVariants.{Complete, Twins, Full, Overrun}
use Rattle.walk.specs.Steps.{number as ending_number, After}

-- ---- a slot that ends nothing at once

-- by a test whose other way is another number
below_of_cond : (a b n : ℕ) → (n ≡ 0 → ⊥) → cond (ltb a b) 0 n ≡ 0 → a < b
below_of_cond a b n other e = go (ltb a b) refl e
  where
    go : (t : Bool) → ltb a b ≡ t → cond t 0 n ≡ 0 → a < b
    go true is e = ltb-true a b is
    go false is e = absurd (other e)

pub clash_goes_on : (w : Walk) (place : Bool) {slot : Slot} → slot ≡ Clashed → ends_at_once w slot place ≡ 0 → w.level + 1 < length w.marks
unfolding ends_at_once levels_of
clash_goes_on w place is e =
    below_of_cond (w.level + 1) (length w.marks) 2 (λ h. omega arith) (sym (ap (λ (s : Slot). ends_at_once w s place) is) ∙ e)

pub clean_goes_on : (w : Walk) {slot : Slot} {place : Bool} {uid : ℕ} → slot ≡ Clean uid → ends_at_once w slot place ≡ 0 → place ≡ true
unfolding ends_at_once
clean_goes_on w {slot} {place} is e = go place (sym (ap (λ (s : Slot). ends_at_once w s place) is) ∙ e)
  where
    go : (b : Bool) → ◌≡◌ {A = ℕ} (cond b 0 3) 0 → b ≡ true
    go true e = refl
    go false e = absurd (omega arith)

-- the walk's own list
pub place_below : (w : Walk) → has_place w ≡ true → w.count < 64
unfolding has_place places
place_below w e = ltb-true w.count 64 e

pub place_none : (w : Walk) → has_place w ≡ false → 64 ≤ w.count
unfolding has_place places
place_none w e = ltb-false w.count 64 e

-- ---- what a slot leaves behind

ending_is_some : (e : Ending) → ending_number e ≡ 0 → ⊥
unfolding ending_number
ending_is_some Complete is = omega arith
ending_is_some Twins is = omega arith
ending_is_some Full is = omega arith
ending_is_some Overrun is = omega arith

-- an ending at once, or the slot noted
pub after_ending : (w : Walk) (slot : Slot) (place : Bool) (e : Ending) (r : Walk) → ending_number e ≡ ends_at_once w slot place → r ≡ ended (ending_number e) w
    → r ≡ walk_after w slot place
unfolding walk_after
after_ending w slot place e r is ends =
    let other : eqb (ends_at_once w slot place) 0 ≡ false = rw (← is) (ne_eqb (ending_number e) 0 (ending_is_some e)) in
    rw (other, ← is) ends

pub after_passing : (w : Walk) (slot : Slot) (place : Bool) (r : Walk) → 0 ≡ ends_at_once w slot place → r ≡ passed (noted w slot) → r ≡ walk_after w slot place
unfolding walk_after
after_passing w slot place r is e = rw (← is) e

-- a place for a clean UID
pub place_few : (place : Option ℕ) (count n : ℕ) → IfSome place (λ at. (count < 64) × (at < n)) → is_some place ≡ true → count < 64
place_few (Some at) count n within is = within.0
place_few None count n within is = cc

-- the walk's own list
pub own_within : (w : Walk) (place : Option ℕ) (n : ℕ) → 64 ≤ n → place ≡ then_some (ltb w.count 64) w.count → IfSome place (λ at. (w.count < 64) × (at < n))
own_within w place n room is = rw is (go (ltb w.count 64) refl)
  where
    go : (b : Bool) → ltb w.count 64 ≡ b → IfSome (then_some b w.count) (λ at. (w.count < 64) × (at < n))
    go true few = let below : w.count < 64 = ltb-true w.count 64 few in (below, omega arith)
    go false many = tt

-- where there is none, no place is looked at
unplaced : (w : Walk) (slot : Slot) (list : List ℕ) → list_after w slot false 0 list ≡ list_after w slot false w.count list
unfolding list_after list_noted ends_at_once
unplaced w Silent list = refl
unplaced w Clashed list = refl
unplaced w (Clean uid) list = refl

pub after_own : (w : Walk) (slot : Slot) (place : Option ℕ) (list : List ℕ) (r : Walk) (left : List ℕ) → place ≡ then_some (ltb w.count 64) w.count
    → After (walk_after w slot (is_some place)) (list_after w slot (is_some place) (unwrap_or place 0) list) r left
    → After (walk_after w slot (has_place w)) (list_after w slot (has_place w) w.count list) r left
unfolding has_place places
after_own w slot place list r left is after = go (ltb w.count 64) (rw is at after)
  where
    go : (b : Bool) → After (walk_after w slot (is_some (then_some b w.count))) (list_after w slot (is_some (then_some b w.count)) (unwrap_or (then_some b w.count) 0) list) r left
        → After (walk_after w slot b) (list_after w slot b w.count list) r left
    go true after = after
    go false after = record { walk_left = after.walk_left; list_left = after.list_left ∙ unplaced w slot list }

-- a list keeps its places
places_noted : (slot : Slot) (at : ℕ) (list : List ℕ) → length (list_noted slot at list) ≡ length list
unfolding list_noted
places_noted Silent at list = refl
places_noted Clashed at list = refl
places_noted (Clean uid) at list = length-set list at uid

pub places_after : (w : Walk) (slot : Slot) (place : Bool) (at : ℕ) (list : List ℕ) → length (list_after w slot place at list) ≡ length list
unfolding list_after
places_after w slot place at list = go (eqb (ends_at_once w slot place) 0)
  where
    go : (b : Bool) → length (cond b (list_noted slot at list) list) ≡ length list
    go true = places_noted slot at list
    go false = refl

-- ---- the call

-- a call that is not refused
pub record Served (w : Walk) (room : ℕ) : Type 0 where
  pub accepted : is_accepted w ≡ true
  pub runs : is_running w ≡ true
  pub list : 64 ≤ room

pub served_of_refusal : (w : Walk) (room : ℕ) → refusal w room ≡ 0 → Served w room
unfolding refusal places
served_of_refusal w room e = go (is_accepted w) (is_running w) (leb 64 room) refl refl refl e
  where
    go : (a b c : Bool) → is_accepted w ≡ a → is_running w ≡ b → leb 64 room ≡ c → ◌≡◌ {A = ℕ} (cond a (cond b (cond c 0 5) 6) 10) 0
        → Served w room
    go true true true p q u e = record { accepted = p; runs = q; list = leb-true 64 room u }
    go true true false p q u e = absurd (omega arith)
    go true false c p q u e = absurd (omega arith)
    go false b c p q u e = absurd (omega arith)

pub hears_refused : (w : Walk) (kind : Kind) (bytes list : List ℕ) (e : Refusal) → number e ≡ refusal w (length list)
    → Hears w (hearing w kind bytes list) (Err e) list
unfolding hearing number_of walk_of
hears_refused w kind bytes list e is =
    let other : eqb (refusal w (length list)) 0 ≡ false = rw (← is) (ne_eqb (number e) 0 (number_is_some e)) in
    record { walk = rw other; number = rw (other, ← is); list_left = rw other }

pub hears_served : (w : Walk) (kind : Kind) (bytes list : List ℕ) (slot : Slot) (r : Walk) (left : List ℕ) → 0 ≡ refusal w (length list)
    → slot ≡ judged w kind bytes → After (walk_after w slot (has_place w)) (list_after w slot (has_place w) w.count list) r left
    → Hears w (hearing w kind bytes list) (Ok r) left
unfolding hearing number_of walk_of
hears_served w kind bytes list slot r left is heard after =
    let served : refusal w (length list) ≡ 0 = sym is in
    record { walk = rw (served, ← heard) after.walk_left; number = rw served; list_left = rw (served, ← heard) after.list_left }

-- ---- what hearing comes to

pub walk_heard : (w : Walk) (kind : Kind) (bytes list : List ℕ) → is_accepted w ≡ true → is_running w ≡ true → 64 ≤ length list
    → hearing w kind bytes list
    ≡ record {
      walk = walk_after w (judged w kind bytes) (has_place w);
      list = list_after w (judged w kind bytes) (has_place w) w.count list;
      number = 0;
    }
unfolding hearing refusal places
walk_heard w kind bytes list e running h = rw (e, running, le-leb 64 (length list) h)

-- after an ending
pub ended_heard : (w : Walk) (kind : Kind) (bytes list : List ℕ) → is_accepted w ≡ true → is_running w ≡ false
    → hearing w kind bytes list ≡ record { walk = w; list = list; number = 6 }
unfolding hearing refusal
ended_heard w kind bytes list e rests = rw (e, rests)
