-- 02, W5, by cases: "from 25 to 40 it may also end full, alike UIDs or not", and "the same UID heard by both takes a row in each". And the numbers of
-- refused calls in 02's own numbers.
use Rattle.std.specs.Prelude.{ℕ, ◌≤◌, cond, ◌&&◌, Bool, true, ◌||◌, List, [], ◌∷◌, ◌++◌, ◌≡◌, leb, eqb, length, take, replicate}
use Rattle.tails.specs.Sum.{times}
use Rattle.walk.specs.declared.Walk.{Walk}
use Rattle.walk.specs.declared.Kind.{Kind}
use Rattle.walk.specs.declared.Slot.TheVariants.{Clean}
use Rattle.walk.specs.Record.{full, is_accepted, is_running, started}
use Rattle.walk.specs.Hear.{judged}
use Rattle.walk.specs.Shared.{starting, SharedHearing, shared_hearing}
use Rattle.play.specs.Life.{Tag}
use Rattle.field.specs.Field.{answering}
use Rattle.field.specs.Demand.{AllObey}
use Rattle.racks.specs.Calls.{OneList, rows_of}
use Rattle.racks.specs.Rack.{Desk, own, played_on, started_on}

-- rack 1 owns 40 rows, and 24 are free
abbrev pub forty_owned : List ℕ
forty_owned = replicate 40 1 ++ replicate 24 255

-- 25 different UIDs: one for each last digit but F, and ten that end in F
abbrev pub twenty_five : List ℕ
twenty_five =
    0xe004010000000000 ∷ 0xe004010000000001 ∷ 0xe004010000000002 ∷ 0xe004010000000003 ∷ 0xe004010000000004
    ∷ 0xe004010000000005 ∷ 0xe004010000000006 ∷ 0xe004010000000007 ∷ 0xe004010000000008 ∷ 0xe004010000000009
    ∷ 0xe00401000000000a ∷ 0xe00401000000000b ∷ 0xe00401000000000c ∷ 0xe00401000000000d ∷ 0xe00401000000000e
    ∷ 0xe00401000000000f ∷ 0xe00401000000001f ∷ 0xe00401000000002f ∷ 0xe00401000000003f ∷ 0xe00401000000004f
    ∷ 0xe00401000000005f ∷ 0xe00401000000006f ∷ 0xe00401000000007f ∷ 0xe00401000000008f ∷ 0xe00401000000009f ∷ []

-- 27 of which two are alike: eleven that end in 0, one for each of 1 to E, and the two
abbrev pub two_alike : List ℕ
two_alike =
    0xe004010000000000 ∷ 0xe004010000000010 ∷ 0xe004010000000020 ∷ 0xe004010000000030 ∷ 0xe004010000000040
    ∷ 0xe004010000000050 ∷ 0xe004010000000060 ∷ 0xe004010000000070 ∷ 0xe004010000000080 ∷ 0xe004010000000090
    ∷ 0xe0040100000000a0 ∷ 0xe004010000000001 ∷ 0xe004010000000002 ∷ 0xe004010000000003 ∷ 0xe004010000000004
    ∷ 0xe004010000000005 ∷ 0xe004010000000006 ∷ 0xe004010000000007 ∷ 0xe004010000000008 ∷ 0xe004010000000009
    ∷ 0xe00401000000000a ∷ 0xe00401000000000b ∷ 0xe00401000000000c ∷ 0xe00401000000000d ∷ 0xe00401000000000e
    ∷ 0xe00401000000000f ∷ 0xe00401000000000f ∷ []

-- rack 0 over any cards of which just these answer, after so many of its slots
abbrev pub desk_of_case : ℕ → Walk → ℕ → List Tag → List ℕ → List ℕ → Desk
desk_of_case n w family tags rows room =
    played_on 0 (replicate n (own tt)) (started_on 0 w family (record { rows = rows; owners = forty_owned }) room tags)

pub record MayEndFull : Type 0 where
  -- 25 different: full in the second round, with 24 listed
  pub different : (family : ℕ) (w : Walk) (tags : List Tag) (rows room : List ℕ) → AllObey tags → 64 ≤ length rows → 14 ≤ length room
      → answering family tags ≡ twenty_five
      → ((desk_of_case 26 w family tags rows room).walk.ending ≡ full) × ((desk_of_case 26 w family tags rows room).walk.count ≡ 24)
  -- 27 of which two are alike: full, before the clash of the two is opened
  pub alike : (family : ℕ) (w : Walk) (tags : List Tag) (rows room : List ℕ) → AllObey tags → 64 ≤ length rows → 14 ≤ length room
      → answering family tags ≡ two_alike
      → ((desk_of_case 27 w family tags rows room).walk.ending ≡ full) × ((desk_of_case 27 w family tags rows room).walk.count ≡ 24)

-- two fresh walks over a list with no owner hear the same clean UID
unfoldable pub OneRowEach : Type 0
OneRowEach =
    (family family' : ℕ) (kind : Kind) (bytes rows : List ℕ) (u : ℕ) → 64 ≤ length rows
    → judged (started family) kind bytes ≡ Clean u → judged (started family') kind bytes ≡ Clean u
    → let h : SharedHearing = shared_hearing (started family) 0 kind bytes rows (replicate 64 255) in
    let k : SharedHearing = shared_hearing (started family') 1 kind bytes h.rows h.owners in
    let after : OneList = record { rows = k.rows; owners = k.owners } in
    (rows_of 0 after ≡ u ∷ []) × (rows_of 1 after ≡ u ∷ [])

-- "each free, 0 or 1": in 02's words, mark by mark
unfoldable pub each_free_or_owned : List ℕ → Bool
each_free_or_owned [] = true
each_free_or_owned (mark ∷ marks) = (eqb mark 255 || (eqb mark 0 || eqb mark 1)) && each_free_or_owned marks

-- "Refusals, for a shared list only: 13 .., first; 5 ..; to hearing, 10 also if either rack owns over 40 rows or the walk's count isn't the rows its own
-- rack owns, checked after 5."
pub record SharedNumbers : Type 0 where
  pub to_start : (w : Walk) (rack family : ℕ) (owners : List ℕ)
      → (starting w rack family owners).number ≡ cond (leb rack 1) (cond (leb 64 (length owners) && each_free_or_owned (take 64 owners)) 0 5) 13
  pub to_hear : (w : Walk) (rack : ℕ) (kind : Kind) (bytes rows owners : List ℕ)
      → (shared_hearing w rack kind bytes rows owners).number
      ≡ cond (leb rack 1) (cond (is_accepted w) (cond (is_running w)
      (cond (leb 64 (length rows) && (leb 64 (length owners) && each_free_or_owned (take 64 owners)))
      (cond (leb (times 0 (take 64 owners)) 40 && (leb (times 1 (take 64 owners)) 40 && eqb w.count (times rack (take 64 owners)))) 0 10) 5) 6) 10) 13
  -- "A call that can't be served returns its number .. and changes nothing."
  pub no_start : (w : Walk) (rack family : ℕ) (owners : List ℕ) → ((starting w rack family owners).number ≡ 0 → ⊥)
      → ((starting w rack family owners).walk ≡ w) × ((starting w rack family owners).owners ≡ owners)
  pub no_hearing : (w : Walk) (rack : ℕ) (kind : Kind) (bytes rows owners : List ℕ) → ((shared_hearing w rack kind bytes rows owners).number ≡ 0 → ⊥)
      → ((shared_hearing w rack kind bytes rows owners).walk ≡ w) × ((shared_hearing w rack kind bytes rows owners).rows ≡ rows)
      × ((shared_hearing w rack kind bytes rows owners).owners ≡ owners)
