-- 02, W5: "The big arm has a rack on each side and one list of 64 rows for both walks." The list, and any call over it.
use Rattle.std.specs.Prelude.{ℕ, true, List, ◌≡◌, length, take}
use Rattle.tails.specs.Sum.{times}
use Rattle.walk.specs.declared.Walk.{Walk}
use Rattle.walk.specs.declared.Kind.{Kind}
use Rattle.walk.specs.Shared.{list_fits, list_of, starting, SharedHearing, shared_hearing}

-- the rows and their marks
pub record OneList : Type 0 where
  pub rows : List ℕ
  pub owners : List ℕ

-- number 5 accepts it
abbrev pub Shareable : OneList → Type 0
Shareable l = list_fits (length l.rows) l.owners ≡ true

-- how many rows a rack owns, and how many are free: "one list of 64 rows"
abbrev pub owned : ℕ → OneList → ℕ
owned rack l = times rack (take 64 l.owners)

abbrev pub free_rows : OneList → ℕ
free_rows l = times 255 (take 64 l.owners)

-- "a walk's list is the rows its rack owns"
abbrev pub rows_of : ℕ → OneList → List ℕ
rows_of rack l = list_of rack l.rows l.owners

-- a call with a rack's number, over any record
pub data Call : Type 0 where
  starts : Walk → ℕ → Call
  hears : Walk → Kind → List ℕ → Call

-- what it leaves of the list, refused or not
unfoldable pub list_after_call : ℕ → Call → OneList → OneList
list_after_call rack (starts w family) l = record { rows = l.rows; owners = (starting w rack family l.owners).owners }
list_after_call rack (hears w kind bytes) l =
    let h : SharedHearing = shared_hearing w rack kind bytes l.rows l.owners in
    record { rows = h.rows; owners = h.owners }
