-- One call over the list: when a walk ends full, which row a UID takes, what a start frees, and what the other rack keeps. By the ways out of the calls
-- and the laws of the marks. Assumes nothing.
use mathlib.Core.Path.{◌≡◌, refl, sym, ◌∙◌}
use mathlib.Core.Bool.{Bool, true, false, cond, ◌&&◌, false≢true}
use mathlib.Core.List.{List}
use Prim.Native.Nat.{ℕ, zero, suc, ◌+◌, ◌≤◌}
use native.Mathlib.Decide.{ℕ_discrete}
use native.Mathlib.Omega.{arith}
use borrow.Author.Tests.{ltb-false, eqb-true}
use lib.Dec.{ltb, eqb}
use lib.ListN.{length, set}
use Rattle.walk.specs.declared.Walk.{Walk}
use Rattle.walk.specs.declared.Kind.{Kind}
use Rattle.walk.specs.declared.Slot.{Slot}
use Rattle.walk.specs.declared.Slot.TheVariants.{Silent, Clashed, Clean}
use Rattle.walk.specs.Marks.{deepest}
use Rattle.walk.specs.Record.{levels_of, most_rounds, full, is_running, remade, ended, counted, marked, at_next_slot, opened_at, opened}
use Rattle.walk.specs.Hear.{judged, ends_at_once, noted, list_noted, turned, passed, walk_after, list_after}
use Rattle.walk.specs.Shared.{rows_with, lowest_free, most_rows, hear_refusal, has_row, owners_after, shared_hearing}
use Rattle.racks.specs.Calls.{OneList}
use Rattle.racks.specs.OneCall.{NoRow, has_40, none_free, FullExactlyAlways, Takes, Stays, TheRowAlways, StartFrees}
use Rattle.walk.proofs.Owners.{lowest_free_lowest, length_freed, freed_below, freed_past}
use Rattle.walk.proofs.SharedWays.{start_served_of, shared_started, SharedServed, shared_served_of, shared_heard, shared_refused}
use Rattle.racks.proofs.Changed.{fits_length, clash_leaves, row_open, own_most}
use Rattle.racks.proofs.Demand.{rows_counted}

-- ---- full

-- a walk that runs and passes on is not full
turned_runs : (x : Walk) (n : ℕ) → x.ending ≡ 0 → (turned x n).ending ≡ full → ⊥
unfolding turned ended opened opened_at remade
turned_runs x zero e f = absurd (omega arith)
turned_runs x (suc j) e f = go (ltb x.rounds (most_rounds (levels_of x))) f
  where
    go : (b : Bool) → (cond b (opened x j) (ended 4 x)).ending ≡ full → ⊥
    go true g = absurd (omega arith)
    go false g = absurd (omega arith)

passed_runs : (x : Walk) → x.ending ≡ 0 → (passed x).ending ≡ full → ⊥
unfolding passed at_next_slot remade
passed_runs x e f = go (ltb x.slot 15) f
  where
    go : (b : Bool) → (cond b (at_next_slot x) (turned x (deepest x.marks))).ending ≡ full → ⊥
    go true g = absurd (omega arith)
    go false g = turned_runs x (deepest x.marks) e g

-- a slot ends a walk full only if it is clean and there is no place for it
full_clean : (w : Walk) (slot : Slot) (place : Bool) → w.ending ≡ 0 → (walk_after w slot place).ending ≡ full → ((u : ℕ) × (slot ≡ Clean u)) × (place ≡ false)
unfolding walk_after ends_at_once noted ended counted marked remade
full_clean w Silent place e f = absurd (passed_runs w e f)
full_clean w Clashed place e f = go (ltb (w.level + 1) (levels_of w)) f
  where
    go : (b : Bool) → (cond (eqb (cond b 0 2) 0) (passed (marked w)) (ended (cond b 0 2) w)).ending ≡ full → ((u : ℕ) × (Clashed ≡ Clean u)) × (place ≡ false)
    go true g = absurd (passed_runs (marked w) e g)
    go false g = absurd (omega arith)
full_clean w (Clean u) true e f = absurd (passed_runs (counted w) e f)
full_clean w (Clean u) false e f = ((u, refl), refl)

clean_full : (w : Walk) (u : ℕ) → (walk_after w (Clean u) false).ending ≡ full
unfolding walk_after ends_at_once ended remade
clean_full w u = refl

-- "that rack has 40 or no row is free"
row_missing : (rack : ℕ) (l : OneList) → rows_with rack l.owners ≤ 40 → has_row rack l.owners ≡ false → NoRow rack l
unfolding has_row most_rows rows_with
row_missing rack l most e = go (ltb (rows_with rack l.owners) 40) (ltb 0 (rows_with 255 l.owners)) refl refl e
  where
    go : (a b : Bool) → ltb (rows_with rack l.owners) 40 ≡ a → ltb 0 (rows_with 255 l.owners) ≡ b → (a && b) ≡ false → NoRow rack l
    go true true p q f = absurd (false≢true (sym f))
    go true false p q f = none_free (sym (rows_counted 255 l.owners) ∙ omega (arith, ltb-false 0 (rows_with 255 l.owners) q))
    go false b p q f = has_40 (sym (rows_counted rack l.owners) ∙ omega (arith, most, ltb-false (rows_with rack l.owners) 40 p))

row_lacking : (rack : ℕ) (l : OneList) → NoRow rack l → has_row rack l.owners ≡ false
unfolding has_row most_rows
row_lacking rack l (has_40 e) = rw (rows_counted rack l.owners, e)
row_lacking rack l (none_free e) = go (ltb (rows_with rack l.owners) 40)
  where
    go : (b : Bool) → (b && ltb 0 (rows_with 255 l.owners)) ≡ false
    go true = rw (rows_counted 255 l.owners, e)
    go false = refl

pub full_exactly : FullExactlyAlways
unfolding FullExactlyAlways is_running
full_exactly w rack kind bytes l e =
    let s = shared_served_of w rack (length l.rows) l.owners e in
    let running : w.ending ≡ 0 = eqb-true w.ending 0 s.runs in
    rw (shared_heard w rack kind bytes l.rows l.owners s)
    (record {
      clean = λ f. (full_clean w (judged w kind bytes) (has_row rack l.owners) running f).0;
      no_row = λ f. row_missing rack l (own_most w rack (length l.rows) l.owners s) (full_clean w (judged w kind bytes) (has_row rack l.owners) running f).1;
      fills = λ u is none. rw (is, row_lacking rack l none) (clean_full w u);
    })

-- ---- the row

-- no clean UID, or no place for it
slot_stays : (w : Walk) (rack : ℕ) (rows owners : List ℕ) (slot : Slot) (place : Bool) → ((u : ℕ) → slot ≡ Clean u → place ≡ false)
    → (list_after w slot place (lowest_free owners) rows ≡ rows) × (owners_after slot place (lowest_free owners) rack owners ≡ owners)
unfolding list_after list_noted owners_after ends_at_once
slot_stays w rack rows owners Silent place f = (refl, refl)
slot_stays w rack rows owners Clashed place f = (clash_leaves (ltb (w.level + 1) (levels_of w)) rows, refl)
slot_stays w rack rows owners (Clean u) true f = absurd (false≢true (sym (f u refl)))
slot_stays w rack rows owners (Clean u) false f = (refl, refl)

clean_takes : (w : Walk) (rack u at : ℕ) (rows owners : List ℕ) → (list_after w (Clean u) true at rows ≡ set rows at u) × (owners_after (Clean u) true at rack owners ≡ set owners at rack)
unfolding list_after list_noted owners_after ends_at_once
clean_takes w rack u at rows owners = (refl, refl)

module _ (w : Walk) (rack : ℕ) (kind : Kind) (bytes : List ℕ) (l : OneList) where
  refused_stays : (hear_refusal w rack (length l.rows) l.owners ≡ 0 → ⊥) → Stays l (shared_hearing w rack kind bytes l.rows l.owners)
  refused_stays e = rw (shared_refused w rack kind bytes l.rows l.owners e) (record { rows = refl; owners = refl })

  served_stays : hear_refusal w rack (length l.rows) l.owners ≡ 0 → ((u : ℕ) → judged w kind bytes ≡ Clean u → NoRow rack l)
      → Stays l (shared_hearing w rack kind bytes l.rows l.owners)
  served_stays e f =
      let stays = slot_stays w rack l.rows l.owners (judged w kind bytes) (has_row rack l.owners) (λ u is. row_lacking rack l (f u is)) in
      rw (shared_heard w rack kind bytes l.rows l.owners (shared_served_of w rack (length l.rows) l.owners e)) (record { rows = stays.0; owners = stays.1 })

  served_takes : hear_refusal w rack (length l.rows) l.owners ≡ 0 → (u : ℕ) → judged w kind bytes ≡ Clean u → (NoRow rack l → ⊥)
      → Takes rack u l (shared_hearing w rack kind bytes l.rows l.owners)
  served_takes e u is some = go (has_row rack l.owners) refl
    where
      s : SharedServed w rack (length l.rows) l.owners
      s = shared_served_of w rack (length l.rows) l.owners e

      go : (b : Bool) → has_row rack l.owners ≡ b → Takes rack u l (shared_hearing w rack kind bytes l.rows l.owners)
      go true p =
          let o = row_open w rack l.rows l.owners s p in
          let left = clean_takes w rack u (lowest_free l.owners) l.rows l.owners in
          rw (shared_heard w rack kind bytes l.rows l.owners s, is, p)
          (record {
            row = lowest_free l.owners;
            within = o.within;
            was_free = o.was_free;
            lowest = λ i below. lowest_free_lowest l.owners i below;
            rows = left.0;
            owners = left.1;
          })
      go false p = absurd (some (row_missing rack l (own_most w rack (length l.rows) l.owners s) p))

pub the_row : TheRowAlways
unfolding TheRowAlways
the_row w rack kind bytes l =
    record {
      taken = served_takes w rack kind bytes l;
      stays = λ f. go f (ℕ_discrete (hear_refusal w rack (length l.rows) l.owners) 0);
      refused = refused_stays w rack kind bytes l;
    }
  where
    go : ((u : ℕ) → judged w kind bytes ≡ Clean u → NoRow rack l) → Dec (hear_refusal w rack (length l.rows) l.owners ≡ 0)
        → Stays l (shared_hearing w rack kind bytes l.rows l.owners)
    go f (yes e) = served_stays w rack kind bytes l e f
    go f (no e) = refused_stays w rack kind bytes l e

-- ---- starting

pub start_frees : StartFrees
unfolding StartFrees
start_frees w rack family owners e =
    let s = start_served_of rack owners e in
    let long : 64 ≤ length owners = fits_length owners s.marks in
    rw (shared_started w rack family owners s)
    (record {
      walk = refl;
      long = length_freed rack owners long;
      marks = λ i h. freed_below rack owners long i h;
      past = λ i h. freed_past rack owners long i h;
    })
