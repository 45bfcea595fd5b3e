-- What a call leaves of the list: it stays, a free row is taken, or a rack's rows are freed. And what that keeps: number 5 accepts it still, no rack owns
-- over 40 rows, and a rack whose number the call had not keeps its rows. By the ways out of the two calls. Assumes nothing.
use mathlib.Core.Path.{◌≡◌, refl, sym, ap, ap₂, ◌∙◌}
use mathlib.Core.Bool.{Bool, true, false, cond, and-eq-true_iff}
use mathlib.Core.List.{List}
use Prim.Native.Nat.{ℕ, ◌+◌, ◌≤◌, ◌<◌}
use native.Mathlib.Decide.{ℕ_discrete}
use native.Mathlib.Omega.{arith}
use borrow.Author.Tests.{ltb-true, le-leb}
use lib.Dec.{ltb, eqb}
use lib.ListN.{length, get_or, set, length-set}
use Rattle.walk.specs.declared.Walk.{Walk}
use Rattle.walk.specs.declared.Kind.{Kind}
use Rattle.walk.specs.declared.Slot.{Slot}
use Rattle.walk.specs.declared.Slot.TheVariants.{Silent, Clashed, Clean}
use Rattle.walk.specs.Record.{levels_of, is_accepted, is_running, started}
use Rattle.walk.specs.Hear.{judged, ends_at_once, list_noted, list_after}
use Rattle.walk.specs.Shared.{rows_with, list_of, lowest_free, is_rack, owners_fit, most_rows, start_refusal, hear_refusal, freed, starting, has_row, owners_after, shared_hearing}
use Rattle.walk.proofs.Owners.{owners_fit_of, lowest_free_below, lowest_free_is, taken_own, taken_other, taken_fit, freed_own, freed_other, freed_fit}
use Rattle.walk.proofs.Rows.{list_taken_other, list_freed_other}
use Rattle.walk.proofs.SharedWays.{start_served_of, start_refusal_none, shared_started, start_refused, SharedServed, shared_served_of, shared_heard, shared_refused}
use Rattle.racks.specs.Calls.{OneList, Call, starts, hears, list_after_call}

-- a row that a rack may take
pub record Open (rack at : ℕ) (rows owners : List ℕ) : Type 0 where
  pub rack_is : rack ≤ 1
  pub within : at < 64
  pub rows_fit : 64 ≤ length rows
  pub owners_fit : owners_fit owners ≡ true
  pub was_free : get_or owners at 0 ≡ 255
  pub few : rows_with rack owners < 40

-- a hearing
pub data Heard (rack : ℕ) (rows owners rows' owners' : List ℕ) : Type 0 where
  stays : rows' ≡ rows → owners' ≡ owners → Heard rack rows owners rows' owners'
  takes : (at uid : ℕ) → Open rack at rows owners → rows' ≡ set rows at uid → owners' ≡ set owners at rack → Heard rack rows owners rows' owners'

-- any call
pub data After (rack : ℕ) (rows owners rows' owners' : List ℕ) : Type 0 where
  hearing : Heard rack rows owners rows' owners' → After rack rows owners rows' owners'
  frees : rack ≤ 1 → owners_fit owners ≡ true → rows' ≡ rows → owners' ≡ freed rack owners → After rack rows owners rows' owners'

-- ---- the ways

pub fits_length : (owners : List ℕ) → owners_fit owners ≡ true → 64 ≤ length owners
fits_length owners e = (owners_fit_of owners e).0

-- a clash leaves the list, marked or ended
pub clash_leaves : (b : Bool) (rows : List ℕ) → cond (eqb (cond b 0 2) 0) rows rows ≡ rows
clash_leaves true rows = refl
clash_leaves false rows = refl

slot_after : (w : Walk) (rack : ℕ) (rows owners : List ℕ) (slot : Slot) (place : Bool) → (place ≡ true → Open rack (lowest_free owners) rows owners)
    → Heard rack rows owners (list_after w slot place (lowest_free owners) rows) (owners_after slot place (lowest_free owners) rack owners)
unfolding list_after list_noted owners_after ends_at_once
slot_after w rack rows owners Silent place may = stays refl refl
slot_after w rack rows owners Clashed place may = stays (clash_leaves (ltb (w.level + 1) (levels_of w)) rows) refl
slot_after w rack rows owners (Clean u) true may = takes (lowest_free owners) u (may refl) refl refl
slot_after w rack rows owners (Clean u) false may = stays refl refl

pub row_open : (w : Walk) (rack : ℕ) (rows owners : List ℕ) → SharedServed w rack (length rows) owners → has_row rack owners ≡ true
    → Open rack (lowest_free owners) rows owners
unfolding has_row most_rows
row_open w rack rows owners s e =
    let long : 64 ≤ length owners = fits_length owners s.marks in
    let both = (and-eq-true_iff (ltb (rows_with rack owners) 40) (ltb 0 (rows_with 255 owners))).0 e in
    let below : lowest_free owners < 64 = ltb-true (lowest_free owners) 64 (sym (lowest_free_below owners long) ∙ both.1) in
    record {
      rack_is = s.is_rack;
      within = below;
      rows_fit = s.room;
      owners_fit = s.marks;
      was_free = lowest_free_is owners below long;
      few = ltb-true (rows_with rack owners) 40 both.0;
    }

pub heard_after : (w : Walk) (rack : ℕ) (kind : Kind) (bytes rows owners : List ℕ)
    → Heard rack rows owners (shared_hearing w rack kind bytes rows owners).rows (shared_hearing w rack kind bytes rows owners).owners
heard_after w rack kind bytes rows owners = go (ℕ_discrete (hear_refusal w rack (length rows) owners) 0)
  where
    go : Dec (hear_refusal w rack (length rows) owners ≡ 0)
        → Heard rack rows owners (shared_hearing w rack kind bytes rows owners).rows (shared_hearing w rack kind bytes rows owners).owners
    go (yes e) =
        let s = shared_served_of w rack (length rows) owners e in
        rw (shared_heard w rack kind bytes rows owners s) (slot_after w rack rows owners (judged w kind bytes) (has_row rack owners) (row_open w rack rows owners s))
    go (no e) = rw (shared_refused w rack kind bytes rows owners e) (stays refl refl)

pub started_after : (w : Walk) (rack family : ℕ) (rows owners : List ℕ) → After rack rows owners rows (starting w rack family owners).owners
started_after w rack family rows owners = go (ℕ_discrete (start_refusal rack owners) 0)
  where
    go : Dec (start_refusal rack owners ≡ 0) → After rack rows owners rows (starting w rack family owners).owners
    go (yes e) =
        let s = start_served_of rack owners e in
        rw (shared_started w rack family owners s) (frees s.is_rack s.marks refl refl)
    go (no e) = rw (start_refused w rack family owners e) (hearing (stays refl refl))

pub call_after : (rack : ℕ) (call : Call) (l : OneList)
    → After rack l.rows l.owners (list_after_call rack call l).rows (list_after_call rack call l).owners
unfolding list_after_call
call_after rack (starts w family) l = started_after w rack family l.rows l.owners
call_after rack (hears w kind bytes) l = hearing (heard_after w rack kind bytes l.rows l.owners)

-- no rack of a call that is served owns over 40 rows
pub own_most : (w : Walk) (rack rows : ℕ) (owners : List ℕ) → SharedServed w rack rows owners → rows_with rack owners ≤ 40
own_most w rack rows owners s = go (ℕ_discrete rack 0)
  where
    go : Dec (rack ≡ 0) → rows_with rack owners ≤ 40
    go (yes e) = rw e s.first
    go (no e) =
        let second : rack ≡ 1 = omega (arith, s.is_rack) in
        rw second s.second

-- after an ending a rack's hearing is number 6
pub ended_refused : (w : Walk) (rack rows : ℕ) (owners : List ℕ) → rack ≤ 1 → is_accepted w ≡ true → is_running w ≡ false → hear_refusal w rack rows owners ≡ 6
unfolding hear_refusal is_rack
ended_refused w rack rows owners is accepted ended = rw (le-leb rack 1 is, accepted, ended)

pub shared_ended : (w : Walk) (rack : ℕ) (kind : Kind) (bytes rows owners : List ℕ) → rack ≤ 1 → is_accepted w ≡ true → is_running w ≡ false
    → shared_hearing w rack kind bytes rows owners ≡ record { walk = w; rows = rows; owners = owners; number = 6 }
shared_ended w rack kind bytes rows owners is accepted ended =
    let six : hear_refusal w rack (length rows) owners ≡ 6 = ended_refused w rack (length rows) owners is accepted ended in
    shared_refused w rack kind bytes rows owners (λ e. omega arith) ∙ rw six

-- a start of a rack over marks that number 5 accepts
pub start_by_marks : (rack : ℕ) (owners : List ℕ) → rack ≤ 1 → owners_fit owners ≡ true → start_refusal rack owners ≡ 0
start_by_marks rack owners is fits = start_refusal_none rack owners (record { is_rack = is; marks = fits })

pub started_by_marks : (w : Walk) (rack family : ℕ) (owners : List ℕ) → rack ≤ 1 → owners_fit owners ≡ true
    → starting w rack family owners ≡ record { walk = started family; owners = freed rack owners; number = 0 }
started_by_marks w rack family owners is fits = shared_started w rack family owners (record { is_rack = is; marks = fits })

-- ---- what is kept

-- number 5 accepts the list, and no rack owns over 40 rows
pub record Sharing (rows owners : List ℕ) : Type 0 where
  pub rows_fit : 64 ≤ length rows
  pub owners_fit : owners_fit owners ≡ true
  pub first_most : rows_with 0 owners ≤ 40
  pub second_most : rows_with 1 owners ≤ 40

taken_most : (m rack at : ℕ) (rows owners : List ℕ) → Open rack at rows owners → m ≤ 1 → rows_with m owners ≤ 40 → rows_with m (set owners at rack) ≤ 40
taken_most m rack at rows owners o is h = go (ℕ_discrete m rack)
  where
    long : 64 ≤ length owners
    long = fits_length owners o.owners_fit

    go : Dec (m ≡ rack) → rows_with m (set owners at rack) ≤ 40
    go (yes e) = rw e (omega (arith, taken_own owners at rack o.within long o.was_free o.rack_is, o.few))
    go (no e) = rw (taken_other owners at rack o.within long o.was_free o.rack_is m e (λ f. omega arith)) h

freed_most : (m rack : ℕ) (owners : List ℕ) → rack ≤ 1 → owners_fit owners ≡ true → m ≤ 1 → rows_with m owners ≤ 40 → rows_with m (freed rack owners) ≤ 40
freed_most m rack owners r fits is h = go (ℕ_discrete m rack)
  where
    long : 64 ≤ length owners
    long = fits_length owners fits

    go : Dec (m ≡ rack) → rows_with m (freed rack owners) ≤ 40
    go (yes e) = rw e (omega (arith, freed_own rack owners long r))
    go (no e) = rw (freed_other rack owners long r m e (λ f. omega arith)) h

pub sharing_after : (rack : ℕ) (rows owners rows' owners' : List ℕ) → After rack rows owners rows' owners' → Sharing rows owners → Sharing rows' owners'
sharing_after rack rows owners rows' owners' (hearing (stays p q)) s =
    record { rows_fit = rw p s.rows_fit; owners_fit = rw q s.owners_fit; first_most = rw q s.first_most; second_most = rw q s.second_most }
sharing_after rack rows owners rows' owners' (hearing (takes at uid o p q)) s =
    record {
      rows_fit = rw (p, length-set) s.rows_fit;
      owners_fit = rw q (taken_fit owners at rack o.within (fits_length owners o.owners_fit) o.was_free o.rack_is s.owners_fit);
      first_most = rw q (taken_most 0 rack at rows owners o (omega arith) s.first_most);
      second_most = rw q (taken_most 1 rack at rows owners o (omega arith) s.second_most);
    }
sharing_after rack rows owners rows' owners' (frees r f p q) s =
    record {
      rows_fit = rw p s.rows_fit;
      owners_fit = rw q (freed_fit rack owners (fits_length owners f) s.owners_fit);
      first_most = rw q (freed_most 0 rack owners r f (omega arith) s.first_most);
      second_most = rw q (freed_most 1 rack owners r f (omega arith) s.second_most);
    }

-- a rack of another number keeps its list, and owns as many rows
pub other_list : (rack s : ℕ) (rows owners rows' owners' : List ℕ) → After rack rows owners rows' owners' → s ≤ 1 → (s ≡ rack → ⊥)
    → list_of s rows' owners' ≡ list_of s rows owners
other_list rack s rows owners rows' owners' (hearing (stays p q)) is e = ap₂ (list_of s) p q
other_list rack s rows owners rows' owners' (hearing (takes at uid o p q)) is e =
    ap₂ (list_of s) p q
    ∙ list_taken_other owners at rack o.within (fits_length owners o.owners_fit) o.was_free o.rack_is rows uid s e (λ f. omega arith)
other_list rack s rows owners rows' owners' (frees r f p q) is e =
    ap₂ (list_of s) p q ∙ list_freed_other rack rows owners (fits_length owners f) s e (λ g. omega arith)

pub other_rows : (rack s : ℕ) (rows owners rows' owners' : List ℕ) → After rack rows owners rows' owners' → s ≤ 1 → (s ≡ rack → ⊥)
    → rows_with s owners' ≡ rows_with s owners
other_rows rack s rows owners rows' owners' (hearing (stays p q)) is e = ap (rows_with s) q
other_rows rack s rows owners rows' owners' (hearing (takes at uid o p q)) is e =
    ap (rows_with s) q ∙ taken_other owners at rack o.within (fits_length owners o.owners_fit) o.was_free o.rack_is s e (λ f. omega arith)
other_rows rack s rows owners rows' owners' (frees r f p q) is e =
    ap (rows_with s) q ∙ freed_other rack owners (fits_length owners f) r s e (λ g. omega arith)
