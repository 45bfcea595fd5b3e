-- 02, W5: "The big arm has a rack on each side and one list of 64 rows for both walks." Beside each row stands its owner mark.
use Rattle.std.specs.Prelude.{Result, ℕ, suc, Bool, true, cond, ◌&&◌, ◌||◌, List, [], ◌∷◌, ◌≡◌, leb, ltb, eqb, length, take, set}
use Rattle.lent.specs.Lent.{over}
use Rattle.refusals.specs.declared.Refusal.{Refusal}
use Rattle.refusals.specs.Number.{number_of}
use Rattle.tails.specs.Sum.{times}
use Rattle.walk.specs.declared.Walk.{Walk}
use Rattle.walk.specs.declared.Kind.{Kind}
use Rattle.walk.specs.declared.Slot.{Slot}
use Rattle.walk.specs.declared.Slot.TheVariants.{Silent, Clashed, Clean}
use Rattle.walk.specs.Record.{places, is_running, is_accepted, started}
use Rattle.walk.specs.Hear.{judged, walk_after, list_after, walk_of}

-- ---- whose a row is

-- "A row belongs to one rack": its mark is that rack's number. 02 names no number for a free row; ours is 255
abbrev pub free : ℕ
free = 255

-- "64 owner marks as well": the first 64 of those that are lent; no other is looked at
unfoldable pub marks_of : List ℕ → List ℕ
marks_of owners = take places owners

-- how many rows have this mark: those that a rack owns, or those that are free
unfoldable pub rows_with : ℕ → List ℕ → ℕ
rows_with mark owners = times mark (marks_of owners)

-- the UIDs in the rows with this mark, row by row from row 0 on
unfoldable pub uids_with : ℕ → List ℕ → List ℕ → List ℕ
uids_with mark [] owners = []
uids_with mark (uid ∷ rows) [] = []
uids_with mark (uid ∷ rows) (owner ∷ owners) = cond (eqb owner mark) (uid ∷ uids_with mark rows owners) (uids_with mark rows owners)

-- "a walk's list is the rows its rack owns"
unfoldable pub list_of : ℕ → List ℕ → List ℕ → List ℕ
list_of rack rows owners = uids_with rack rows (marks_of owners)

-- the place of the first free mark, or the one after all
unfoldable pub first_free : List ℕ → ℕ
first_free [] = 0
first_free (owner ∷ owners) = cond (eqb owner free) 0 (suc (first_free owners))

-- "the lowest free row"; 64 where no row is free
unfoldable pub lowest_free : List ℕ → ℕ
lowest_free owners = first_free (marks_of owners)

-- ---- Numbers of refused calls: "Refusals, for a shared list only"

-- "13 rack number other than 0 or 1, first"
unfoldable pub is_rack : ℕ → Bool
is_rack rack = leb rack 1

-- "each free, 0 or 1"
unfoldable pub are_marks : List ℕ → Bool
are_marks [] = true
are_marks (owner ∷ owners) = (eqb owner free || (eqb owner 0 || eqb owner 1)) && are_marks owners

-- "5 now asks for 64 owner marks as well, each free, 0 or 1"
unfoldable pub owners_fit : List ℕ → Bool
owners_fit owners = leb places (length owners) && are_marks (marks_of owners)

-- 5 is 01's "list of fewer than 64 places" too
unfoldable pub list_fits : ℕ → List ℕ → Bool
list_fits rows owners = leb places rows && owners_fit owners

-- "Each rack may hold at most 40 rows"
unfoldable pub most_rows : ℕ
most_rows = 40

-- "10 also if either rack owns over 40 rows or the walk's count isn't the rows its own rack owns"
unfoldable pub shares_fit : Walk → ℕ → List ℕ → Bool
shares_fit w rack owners =
    leb (rows_with 0 owners) most_rows && (leb (rows_with 1 owners) most_rows && eqb w.count (rows_with rack owners))

-- starting: 13, 5; 0 where the call is served
unfoldable pub start_refusal : ℕ → List ℕ → ℕ
start_refusal rack owners = cond (is_rack rack) (cond (owners_fit owners) 0 5) 13

-- hearing: 13, then 01's 10, 6, 5, and the other 10 "checked after 5"
unfoldable pub hear_refusal : Walk → ℕ → ℕ → List ℕ → ℕ
hear_refusal w rack rows owners =
    cond (is_rack rack)
    (cond (is_accepted w) (cond (is_running w) (cond (list_fits rows owners) (cond (shares_fit w rack owners) 0 10) 5) 6) 10) 13

-- ---- starting

unfoldable pub freed_of : ℕ → List ℕ → List ℕ
freed_of rack [] = []
freed_of rack (owner ∷ owners) = cond (eqb owner rack) free owner ∷ freed_of rack owners

-- "Starting a rack's walk anew frees its rows (marks only)"
unfoldable pub freed : ℕ → List ℕ → List ℕ
freed rack owners = over (freed_of rack (marks_of owners)) owners

-- all that starting leaves behind; "All change nothing."
pub record Starting : Type 0 where
  pub walk : Walk
  pub owners : List ℕ
  pub number : ℕ

unfoldable pub starting : Walk → ℕ → ℕ → List ℕ → Starting
starting w rack family owners =
    let n : ℕ = start_refusal rack owners in
    cond (eqb n 0) (record { walk = started family; owners = freed rack owners; number = 0 }) (record { walk = w; owners = owners; number = n })

-- what `start_shared` promises: what is returned, and every mark
pub record Starts (w : Walk) (s : Starting) (r : Result Walk Refusal) (owners : List ℕ) : Type 0 where
  pub walk : walk_of w r ≡ s.walk
  pub number : number_of r ≡ s.number
  pub owners_left : owners ≡ s.owners

-- ---- hearing

-- "full comes exactly when a clean UID arrives and that rack has 40 or no row is free": whether there is a row for one more
unfoldable pub has_row : ℕ → List ℕ → Bool
has_row rack owners = ltb (rows_with rack owners) most_rows && ltb 0 (rows_with free owners)

-- the row of a clean UID is the rack's
unfoldable pub owners_after : Slot → Bool → ℕ → ℕ → List ℕ → List ℕ
owners_after Silent place at rack owners = owners
owners_after Clashed place at rack owners = owners
owners_after (Clean uid) place at rack owners = cond place (set owners at rack) owners

-- all that hearing leaves behind; "All change nothing."
pub record SharedHearing : Type 0 where
  pub walk : Walk
  pub rows : List ℕ
  pub owners : List ℕ
  pub number : ℕ

-- "A UID goes into the lowest free row."; "The round limit stays 481.", and 417 by W6: that of `walk_after`
unfoldable pub shared_hearing : Walk → ℕ → Kind → List ℕ → List ℕ → List ℕ → SharedHearing
shared_hearing w rack kind bytes rows owners =
    let n : ℕ = hear_refusal w rack (length rows) owners in
    let slot : Slot = judged w kind bytes in
    cond (eqb n 0)
    (record {
      walk = walk_after w slot (has_row rack owners);
      rows = list_after w slot (has_row rack owners) (lowest_free owners) rows;
      owners = owners_after slot (has_row rack owners) (lowest_free owners) rack owners;
      number = 0;
    })
    (record { walk = w; rows = rows; owners = owners; number = n })

-- what `hear_shared` promises: what is returned, every row and every mark
pub record HearsShared (w : Walk) (h : SharedHearing) (r : Result Walk Refusal) (rows owners : List ℕ) : Type 0 where
  pub walk : walk_of w r ≡ h.walk
  pub number : number_of r ≡ h.number
  pub rows_left : rows ≡ h.rows
  pub owners_left : owners ≡ h.owners
