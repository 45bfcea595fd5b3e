-- A list of the walk's own: what hearing leaves of it lists what the slot adds, after those that the walk counted. By the tests of hearing.
-- Assumes nothing.
use mathlib.Core.Path.{◌≡◌, refl}
use mathlib.Core.Bool.{Bool, true, false, cond}
use Prim.Native.Nat.{ℕ, zero, suc, ◌+◌, ◌≤◌, ◌<◌}
use native.Mathlib.Numerals.{add-one}
use native.Mathlib.Omega.{arith}
use mathlib.Core.List.{List, [], ◌∷◌, ◌++◌}
use borrow.Author.Tests.{eqb-true, eqb-false}
use lib.Dec.{ltb, eqb}
use lib.ListN.{length, take, set, length-set}
use lib.Seq.{take-suc, take-set-le, get_or-set_same}
use Rattle.tails.specs.Sum.{tally}
use Rattle.tails.proofs.Tally.{tally_append}
use Rattle.walk.specs.declared.Walk.{Walk}
use Rattle.walk.specs.declared.Slot.{Slot}
use Rattle.walk.specs.declared.Slot.TheVariants.{Silent, Clashed, Clean}
use Rattle.walk.specs.Marks.{deepest}
use Rattle.walk.specs.Record.{levels_of, most_rounds, remade, ended, counted, marked, at_next_slot, opened_at, opened}
use Rattle.walk.specs.Hear.{has_place, ends_at_once, noted, list_noted, turned, passed, walk_after, list_after}
use Rattle.walk.proofs.HearWays.{clean_goes_on, place_below}
use Rattle.field.specs.Found.{listed}
use Rattle.field.proofs.AnyReplies.{added, Lists, clean_added, ending_added}

-- ---- the count

either_count : (b : Bool) (n : ℕ) (x y : Walk) → x.count ≡ n → y.count ≡ n → (cond b x y).count ≡ n
either_count true n x y p q = p
either_count false n x y p q = q

count_turned : (w : Walk) (n : ℕ) → (turned w n).count ≡ w.count
unfolding turned ended opened opened_at remade
count_turned w zero = refl
count_turned w (suc j) = either_count (ltb w.rounds (most_rounds (levels_of w))) _ (opened w j) (ended 4 w) refl refl

count_passed : (w : Walk) → (passed w).count ≡ w.count
unfolding passed at_next_slot remade
count_passed w = either_count (ltb w.slot 15) _ (at_next_slot w) (turned w (deepest w.marks)) refl (count_turned w (deepest w.marks))

-- ---- the UIDs listed

-- the list with a UID more
listed_more : (v : ℕ → ℕ) (n u : ℕ) (list : List ℕ) → n < length list → tally v (take (n + 1) (set list n u)) ≡ tally v (take n list) + v u
unfolding tally
listed_more v n u list h =
    let longer : n < length (set list n u) = rw length-set h in
    let same : take (n + 1) (set list n u) ≡ take n list ++ u ∷ [] =
    rw (add-one, take-suc (set list n u) n 0 longer, take-set-le n list n u (omega arith), get_or-set_same list n u 0 h) in
    rw (same, tally_append v (take n list) (u ∷ [])) (omega arith)

noted_lists : (v : ℕ → ℕ) (w : Walk) (list : List ℕ) (slot : Slot) → 64 ≤ length list → ends_at_once w slot (has_place w) ≡ 0
    → tally v (take (noted w slot).count (list_noted slot w.count list)) ≡ tally v (take w.count list) + added v slot (has_place w)
unfolding noted list_noted added counted marked remade
noted_lists v w list Silent h e = omega arith
noted_lists v w list Clashed h e = omega arith
noted_lists v w list (Clean x) h e =
    let few : w.count < 64 = place_below w (clean_goes_on w {slot = Clean x} {place = has_place w} {uid = x} refl e) in
    omega (arith, listed_more v w.count x list (omega arith), clean_added v w x (has_place w) e)

pub own_lists : (w : Walk) (list : List ℕ) (slot : Slot) → 64 ≤ length list
    → Lists slot (has_place w) (listed w list) (listed (walk_after w slot (has_place w)) (list_after w slot (has_place w) w.count list))
unfolding walk_after list_after listed ended remade
own_lists w list slot h v = go (eqb (ends_at_once w slot place) 0) refl
  where
    place : Bool
    place = has_place w

    go : (b : Bool) → eqb (ends_at_once w slot place) 0 ≡ b
        → tally v (take (cond b (passed (noted w slot)) (ended (ends_at_once w slot place) w)).count (cond b (list_noted slot w.count list) list))
        ≡ tally v (take w.count list) + added v slot place
    go true e = rw (count_passed (noted w slot)) (noted_lists v w list slot h (eqb-true (ends_at_once w slot place) 0 e))
    go false e = omega (arith, ending_added v w slot place (eqb-false (ends_at_once w slot place) 0 e))
