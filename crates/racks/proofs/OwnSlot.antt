-- A slot of a rack's own that is served: what it adds to the rack's list, and that the list it leaves is shared as before. By the laws of the rows.
-- Assumes nothing.
use mathlib.Core.Path.{◌≡◌, refl, sym, ap}
use mathlib.Core.Bool.{Bool, true, false, ◌&&◌, and-eq-true_iff, false≢true}
use mathlib.Core.List.{List}
use Prim.Native.Nat.{ℕ, ◌+◌, ◌≤◌, ◌<◌}
use native.Mathlib.Decide.{ℕ_discrete}
use native.Mathlib.Omega.{arith}
use borrow.Author.Tests.{ltb-true, ltb-false}
use lib.Dec.{ltb}
use lib.ListN.{length}
use Rattle.walk.specs.declared.Walk.{Walk}
use Rattle.walk.specs.declared.Slot.{Slot}
use Rattle.walk.specs.declared.Slot.TheVariants.{Silent, Clashed, Clean}
use Rattle.walk.specs.Record.{levels_of, is_accepted, is_running}
use Rattle.walk.specs.Hear.{ends_at_once, list_noted, list_after}
use Rattle.walk.specs.Shared.{rows_with, list_of, lowest_free, most_rows, has_row, owners_after}
use Rattle.walk.proofs.Owners.{rows_with_all}
use Rattle.walk.proofs.Rows.{list_taken}
use Rattle.walk.proofs.SharedWays.{SharedServed}
use Rattle.field.proofs.AnyReplies.{added, Lists}
use Rattle.racks.proofs.Changed.{Open, clash_leaves, fits_length, Sharing}

-- a walk whose rack owns as many rows as it counts
pub record Owning (rack : ℕ) (w : Walk) (rows owners : List ℕ) : Type 0 where
  pub sharing : Sharing rows owners
  pub number : w.count ≡ rows_with rack owners

pub owning_served : (rack : ℕ) (w : Walk) (rows owners : List ℕ) → rack ≤ 1 → is_accepted w ≡ true → is_running w ≡ true → Owning rack w rows owners
    → SharedServed w rack (length rows) owners
owning_served rack w rows owners is accepted running o =
    record {
      is_rack = is;
      accepted = accepted;
      runs = running;
      room = o.sharing.rows_fit;
      marks = o.sharing.owners_fit;
      first = o.sharing.first_most;
      second = o.sharing.second_most;
      counts = o.number;
    }

-- a row for one more is one of 40; where there is none the rack has 40 rows, or all 64 are owned and the other has 40 at the most
pub row_few : (rack : ℕ) (owners : List ℕ) → has_row rack owners ≡ true → rows_with rack owners < 40
unfolding has_row most_rows
row_few rack owners e = ltb-true (rows_with rack owners) 40 ((and-eq-true_iff (ltb (rows_with rack owners) 40) (ltb 0 (rows_with 255 owners))).0 e).0

pub row_none : (rack : ℕ) (rows owners : List ℕ) → rack ≤ 1 → Sharing rows owners → has_row rack owners ≡ false → 24 ≤ rows_with rack owners
unfolding has_row most_rows
row_none rack rows owners is s e = go (ltb (rows_with rack owners) 40) (ltb 0 (rows_with 255 owners)) refl refl e
  where
    own : rack ≡ 0 → rows_with rack owners ≡ rows_with 0 owners
    own f = ap (λ (m : ℕ). rows_with m owners) f

    all : rows_with 255 owners + rows_with 0 owners + rows_with 1 owners ≡ 64
    all = rows_with_all owners s.owners_fit

    other : Dec (rack ≡ 0) → rows_with 255 owners ≡ 0 → 24 ≤ rows_with rack owners
    other (yes f) none = rw f (omega (arith, all, none, s.second_most))
    other (no f) none =
        let second : rack ≡ 1 = omega arith in
        rw second (omega (arith, all, none, s.first_most))

    go : (a b : Bool) → ltb (rows_with rack owners) 40 ≡ a → ltb 0 (rows_with 255 owners) ≡ b → (a && b) ≡ false → 24 ≤ rows_with rack owners
    go true true p q f = absurd (false≢true (sym f))
    go true false p q f = other (ℕ_discrete rack 0) (omega (arith, ltb-false 0 (rows_with 255 owners) q))
    go false b p q f = omega (arith, ltb-false (rows_with rack owners) 40 p)

-- what a slot adds to the rack's list
pub own_lists : (w : Walk) (rack : ℕ) (rows owners : List ℕ) (slot : Slot) (place : Bool) → (place ≡ true → Open rack (lowest_free owners) rows owners)
    → Lists slot place (list_of rack rows owners)
    (list_of rack (list_after w slot place (lowest_free owners) rows) (owners_after slot place (lowest_free owners) rack owners))
unfolding list_after list_noted owners_after ends_at_once added
own_lists w rack rows owners Silent place may v = omega arith
own_lists w rack rows owners Clashed place may v = rw (clash_leaves (ltb (w.level + 1) (levels_of w)) rows) (omega arith)
own_lists w rack rows owners (Clean u) true may v =
    let o : Open rack (lowest_free owners) rows owners = may refl in
    list_taken owners (lowest_free owners) rack o.within (fits_length owners o.owners_fit) o.was_free o.rack_is rows u o.rows_fit v
own_lists w rack rows owners (Clean u) false may v = omega arith
