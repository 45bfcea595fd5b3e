-- A walk from its start over any replies, true or false: accepted at every slot, no UID twice and none without E0, ended after sixteen slots for each round it may have.
-- By the weight of one UID and the count of slots. Assumes nothing.
use mathlib.Core.Path.{◌≡◌, refl, sym, ap, subst, ◌∙◌}
use mathlib.Core.Bool.{Bool, true, false, cond, and-eq-true_iff, false≢true}
use Prim.Native.Nat.{ℕ, suc, ◌+◌, ◌%◌, ◌^◌, ◌≤◌, ◌<◌}
use native.Mathlib.Decide.{ℕ_discrete}
use native.Mathlib.Nat.{zero-add}
use native.Mathlib.Omega.{arith}
use mathlib.Core.List.{List, [], ◌∷◌}
use borrow.Author.Tests.{ne_eqb, eqb-true}
use lib.Dec.{eqb}
use lib.ListN.{length, get_or}
use Rattle.crc.specs.Check.{is_sealed}
use Rattle.tails.specs.Sum.{one, tally, times}
use Rattle.slots.specs.Fits.{fits_slot}
use Rattle.walk.specs.declared.Walk.{Walk}
use Rattle.walk.specs.declared.Slot.{Slot}
use Rattle.walk.specs.declared.Slot.TheVariants.{Silent, Clashed, Clean}
use Rattle.walk.specs.declared.Kind.{Kind}
use Rattle.walk.specs.declared.Kind.TheVariants as kind
use Rattle.walk.specs.Marks.{levels}
use Rattle.walk.specs.Record.{levels_of, most_rounds, most_slots, mask_length, whole_mask, started_of, started}
use Rattle.walk.specs.Hear.{uid_of, starts_e0, is_clean, judged, has_place, walk_after, list_after}
use Rattle.walk.proofs.LevelsStay.{levels_started, levels_after}
use Rattle.walk.proofs.HearWays.{place_below, places_after, walk_heard, ended_heard}
use Rattle.field.specs.Field.{Arrival}
use Rattle.field.specs.Found.{listed}
use Rattle.field.specs.Replies.{FitsClean, Walked, heard_in, heard_all, HoldsIn, AnyReplies}
use Rattle.field.proofs.WaitSums.{slot_tail}
use Rattle.field.proofs.AnyReplies.{Walks, Fits, added, Lists, start_walks}
use Rattle.field.proofs.OwnList.{own_lists}
use Rattle.field.proofs.Called.{Starts}
use Rattle.field.proofs.Accepted.{walks_accepted}
use Rattle.field.proofs.Callers.{slot_tail_lem}
use Rattle.field.proofs.AnyStages.{Stage, hears, rests, once, after_slot}
use Rattle.field.proofs.Stages.{running_of}

-- ---- a clean UID fits mask and slot, and begins with E0

clean_uid : Slot → ℕ
clean_uid Silent = 0
clean_uid Clashed = 0
clean_uid (Clean u) = u

is_clean_slot : Slot → Bool
is_clean_slot Silent = false
is_clean_slot Clashed = false
is_clean_slot (Clean u) = true

not_clean : {A : Type 0} → false ≡ true → A
not_clean e = absurd (false≢true e)

clean_of : (w : Walk) (bytes : List ℕ) (u : ℕ) (b : Bool) → is_clean w bytes ≡ b → cond b (Clean (uid_of bytes)) Clashed ≡ Clean u → FitsClean w u
unfolding is_clean clean_uid is_clean_slot
clean_of w bytes u true e h =
    let a = (and-eq-true_iff (eqb (length bytes) 12) _).0 e in
    let b = (and-eq-true_iff (is_sealed bytes) _).0 a.1 in
    let c = (and-eq-true_iff (eqb (get_or bytes 0 0) 0) _).0 b.1 in
    let d = (and-eq-true_iff (fits_slot (uid_of bytes) (mask_length w.level) (whole_mask w) w.slot) _).0 c.1 in
    let same : u ≡ uid_of bytes = sym (ap clean_uid h) in
    record { fits = rw same d.0; starts = rw same d.1 }
clean_of w bytes u false e h = not_clean (ap is_clean_slot h)

pub judged_clean : (w : Walk) (k : Kind) (bytes : List ℕ) (u : ℕ) → judged w k bytes ≡ Clean u → FitsClean w u
unfolding judged is_clean_slot
judged_clean w kind.Silence bytes u h = not_clean (ap is_clean_slot h)
judged_clean w kind.Clash bytes u h = not_clean (ap is_clean_slot h)
judged_clean w kind.Bytes bytes u h = clean_of w bytes u (is_clean w bytes) refl h

pub slot_fits : {levels : ℕ} (w : Walk) (t : ℕ) (ls : List ℕ) (s : Slot) → Walks levels w ls t → w.slot < 16
    → ((u : ℕ) → s ≡ Clean u → fits_slot u (mask_length w.level) (whole_mask w) w.slot ≡ true) → Fits w s
unfolding Fits
slot_fits w t ls Silent g h f = tt
slot_fits w t ls Clashed g h f = tt
slot_fits w t ls (Clean u) g h f =
    eqb-true (u % 16 ^ suc w.level) (slot_tail w.level (whole_mask w) w.slot)
    (sym (slot_tail_lem u w.level (whole_mask w) w.slot g.steady.accepted.mask h) ∙ f u refl)

-- ---- slot after slot

-- with a list of the walk's own, of 64 places
record Stands (levels n : ℕ) (p : Walked) : Type 0 where
  places_fit : 64 ≤ length p.list
  long : length p.walk.marks ≡ levels
  begins : Starts levels (listed p.walk p.list)
  stage : Stage levels n p.walk (listed p.walk p.list)

-- what a slot lists begins with E0
pub added_starts : (levels : ℕ) (w : Walk) (slot : Slot) (place : Bool) (ls ls' : List ℕ) → levels_of w ≡ levels → ((u : ℕ) → slot ≡ Clean u → FitsClean w u)
    → Lists slot place ls ls' → Starts levels ls → Starts levels ls'
unfolding Starts added times one
added_starts levels w Silent place ls ls' long clean l old u h = old u (omega (arith, h, l (λ x. one (eqb x u))))
added_starts levels w Clashed place ls ls' long clean l old u h = old u (omega (arith, h, l (λ x. one (eqb x u))))
added_starts levels w (Clean x) false ls ls' long clean l old u h = old u (omega (arith, h, l (λ x. one (eqb x u))))
added_starts levels w (Clean x) true ls ls' long clean l old u h = go (ℕ_discrete x u)
  where
    go : Dec (x ≡ u) → starts_e0 levels u ≡ true
    go (yes e) = rw (← long, ← e) (clean x refl).starts
    go (no e) =
        let other : one (eqb x u) ≡ 0 = ap (λ (b : Bool). one b) (ne_eqb x u e) in
        old u (omega (arith, h, other, l (λ y. one (eqb y u))))

stands_slot : {levels : ℕ} (n : ℕ) (p : Walked) (a : Arrival) → 64 ≤ length p.list → length p.walk.marks ≡ levels
    → Starts levels (listed p.walk p.list) → Stage levels n p.walk (listed p.walk p.list) → Stands levels (suc n) (heard_in p a)
unfolding heard_in levels_of
stands_slot {levels} n p a places long old (hears g h e c) =
    let w : Walk = p.walk in
    let s : Slot = judged w a.kind a.bytes in
    let ls : List ℕ = listed w p.list in
    let left : List ℕ = list_after w s (has_place w) w.count p.list in
    let clean : (u : ℕ) → s ≡ Clean u → FitsClean w u = judged_clean w a.kind a.bytes in
    let fits : Fits w s = slot_fits w w.slot ls s g h (λ u f. (clean u f).fits) in
    rw (walk_heard w a.kind a.bytes p.list (walks_accepted w ls w.slot h g) (running_of w e) places)
    (record {
      places_fit = rw (places_after w s (has_place w) w.count p.list) places;
      long = levels_after w s (has_place w) ∙ long;
      begins = added_starts levels w s (has_place w) ls (listed (walk_after w s (has_place w)) left) long clean (own_lists w p.list s places) old;
      stage = after_slot n w ls (listed (walk_after w s (has_place w)) left) s (has_place w) g h e c fits (place_below w) (own_lists w p.list s places);
    })
stands_slot n p a places long old (rests r e o k) =
    rw (ended_heard p.walk a.kind a.bytes p.list r e) (record { places_fit = places; long = long; begins = old; stage = rests r e o k })

stands_all : {levels : ℕ} (arrivals : List Arrival) (n : ℕ) (p : Walked) → Stands levels n p → Stands levels (n + length arrivals) (heard_all arrivals p)
unfolding heard_all
stands_all {levels} [] n p s = subst (λ (k : ℕ). Stands levels k p) (omega arith) s
stands_all {levels} (a ∷ rest) n p s =
    subst (λ (k : ℕ). Stands levels k (heard_all rest (heard_in p a))) (omega arith)
    (stands_all rest (suc n) (heard_in p a) (stands_slot n p a s.places_fit s.long s.begins s.stage))

holds_of : (levels n : ℕ) (p : Walked) → Starts levels (listed p.walk p.list) → Stage levels n p.walk (listed p.walk p.list)
    → HoldsIn levels (most_slots levels) n p
unfolding most_slots Starts
holds_of levels n p begins (hears g h e c) =
    let ls : List ℕ = listed p.walk p.list in
    record {
      accepted = walks_accepted p.walk ls p.walk.slot h g;
      once = once p.walk ls p.walk.slot g;
      begins = begins;
      counted = λ r. c;
      ends = λ m. let most : p.walk.rounds ≤ most_rounds levels = rw g.marks_length at g.steady.accepted.last_round in absurd (omega (arith, most, c, h, m));
    }
holds_of levels n p begins (rests r e o k) =
    record { accepted = r; once = o; begins = begins; counted = λ r. absurd (false≢true (sym e ∙ r)); ends = λ m. e }

-- a walk of any number of levels
pub walk_of_any_replies_in : (levels family : ℕ) (list : List ℕ) (arrivals : List Arrival) → 1 ≤ levels → 64 ≤ length list
    → HoldsIn levels (most_slots levels) (length arrivals) (heard_all arrivals (record { walk = started_of levels family; list = list }))
unfolding started_of listed Starts times tally
walk_of_any_replies_in levels family list arrivals least h =
    let fresh : Walked = record { walk = started_of levels family; list = list } in
    let start : Stands levels 0 fresh =
    record {
      places_fit = h;
      long = levels_started levels family;
      begins = λ u k. absurd (omega arith);
      stage = hears (start_walks levels family least) (omega arith) refl (omega arith);
    } in
    let last : Stands levels (length arrivals) (heard_all arrivals fresh) =
    subst (λ (n : ℕ). Stands levels n (heard_all arrivals fresh)) (zero-add (length arrivals)) (stands_all arrivals 0 fresh start) in
    holds_of levels (length arrivals) (heard_all arrivals fresh) last.begins last.stage

pub walk_of_any_replies : AnyReplies
unfolding AnyReplies started levels most_slots most_rounds
walk_of_any_replies family list arrivals h = walk_of_any_replies_in levels family list arrivals (omega arith) h
