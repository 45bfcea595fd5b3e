-- Steps of private functions: nothing here has to be held against the rules page.
use Rattle.std.specs.Prelude.{ℕ, ◌+◌, ◌<◌, Option, Some, None, MatchOption, is_some, unwrap_or, Result, Ok, Err, IfOk, List, length, get_or, set, Bool, false, cond, ◌&&◌, ◌≡◌, leb, ltb, eqb}
use Rattle.walk.specs.declared.Walk.{Walk}
use Rattle.walk.specs.declared.Ending.{Ending}
use Rattle.walk.specs.declared.Ending.TheVariants.{Complete, Twins, Full, Overrun}
use Rattle.walk.specs.declared.Slot.{Slot}
use Rattle.walk.specs.declared.Slot.TheVariants.{Silent, Clashed, Clean}
use Rattle.walk.specs.declared.shared.Shares.{Shares}
use Rattle.walk.specs.Record.{running, complete, twins, full, overrun}
use Rattle.walk.specs.Hear.{ends_at_once, noted, walk_after, list_after}
use Rattle.walk.specs.Shared.{free, rows_with, lowest_free, has_row, owners_after}

-- the number of an ending in the record
unfoldable pub number : Ending → ℕ
number Complete = complete
number Twins = twins
number Full = full
number Overrun = overrun

-- how many levels there are down to this one; no level where there is none
unfoldable pub levels_to : Option ℕ → ℕ
levels_to None = 0
levels_to (Some level) = level + 1

-- the deepest level with a mark
abbrev pub IsDeepest : List ℕ → Option ℕ → Type 0
IsDeepest marks result =
    MatchOption result ((k : ℕ) → k < length marks → get_or marks k 0 ≡ 0)
    (λ j. (j < length marks) × (get_or marks j 0 ≡ 0 → ⊥) × ((k : ℕ) → j < k → k < length marks → get_or marks k 0 ≡ 0))

-- what a slot leaves behind: the walk r, and the list left
pub record After (walk : Walk) (list : List ℕ) (r : Walk) (left : List ℕ) : Type 0 where
  pub walk_left : r ≡ walk
  pub list_left : left ≡ list

-- what noting a slot leaves behind: the walk and the list, or the ending that comes at once
unfoldable pub ending_of : Result Walk Ending → ℕ
ending_of (Ok next) = running
ending_of (Err ending) = number ending

pub record Notes (w : Walk) (slot : Slot) (place : Option ℕ) (list : List ℕ) (r : Result Walk Ending) (left : List ℕ) : Type 0 where
  pub ending : ending_of r ≡ ends_at_once w slot (is_some place)
  pub walk_left : IfOk r (λ next. next ≡ noted w slot)
  pub list_left : left ≡ list_after w slot (is_some place) (unwrap_or place 0) list

-- the first free one of the marks
abbrev pub IsFirstFree : List ℕ → Option ℕ → Type 0
IsFirstFree marks result =
    MatchOption result ((k : ℕ) → k < length marks → get_or marks k 0 ≡ 255 → ⊥)
    (λ i. (i < length marks) × (get_or marks i 0 ≡ 255) × ((k : ℕ) → k < i → get_or marks k 0 ≡ 255 → ⊥))

-- the lowest free row, or none
unfoldable pub IsLowestFree : Option ℕ → List ℕ → Type 0
IsLowestFree result owners = MatchOption result (lowest_free owners ≡ 64) (λ at. (at ≡ lowest_free owners) × (at < 64))

-- the row that a slot takes: the lowest free one for a clean UID, where the rack may own one more
unfoldable pub IsRowFor : Walk → Slot → Option ℕ → List ℕ → Type 0
IsRowFor w Silent result owners = result ≡ None
IsRowFor w Clashed result owners = result ≡ None
IsRowFor w (Clean uid) result owners = MatchOption result ((ltb w.count 40 && ltb (lowest_free owners) 64) ≡ false) (λ at. (at ≡ lowest_free owners) × (at < 64) × (w.count < 40))

-- the rows that are free, rack 0's and rack 1's
unfoldable pub shares_of : List ℕ → Shares
shares_of owners = record { free = rows_with free owners; first = rows_with 0 owners; second = rows_with 1 owners }

-- the last test of hearing, by the numbers of rows
unfoldable pub counts_fit : Shares → ℕ → ℕ → Bool
counts_fit s rack count = leb s.first 40 && leb s.second 40 && eqb count (cond (eqb rack 0) s.first s.second)

-- the row that is taken is the rack's
unfoldable pub owned : Option ℕ → ℕ → List ℕ → List ℕ
owned None rack owners = owners
owned (Some at) rack owners = set owners at rack

-- what a slot leaves behind of a shared list: the walk r, the rows and the marks
pub record AfterRow (w : Walk) (rack : ℕ) (slot : Slot) (rows owners : List ℕ) (r : Walk) (rows' owners' : List ℕ) : Type 0 where
  pub walk_left : r ≡ walk_after w slot (has_row rack owners)
  pub rows_left : rows' ≡ list_after w slot (has_row rack owners) (lowest_free owners) rows
  pub owners_left : owners' ≡ owners_after slot (has_row rack owners) (lowest_free owners) rack owners
