-- 02, W5, one call over the list: when a walk ends full, which row a UID takes, what a start frees, what the other rack keeps, and what a hearing sees
-- of the other rack.
use Rattle.std.specs.Prelude.{ℕ, ◌≤◌, ◌<◌, true, cond, List, ◌≡◌, eqb, length, get_or, set}
use Rattle.tails.specs.Sum.{times}
use Rattle.walk.specs.declared.Walk.{Walk}
use Rattle.walk.specs.declared.Kind.{Kind}
use Rattle.walk.specs.declared.Slot.{Slot}
use Rattle.walk.specs.declared.Slot.TheVariants.{Clean}
use Rattle.walk.specs.Record.{full, is_accepted, is_running, started}
use Rattle.walk.specs.Hear.{judged}
use Rattle.walk.specs.Shared.{start_refusal, hear_refusal, Starting, starting, SharedHearing, shared_hearing}
use Rattle.racks.specs.Calls.{OneList, Shareable, owned, free_rows, rows_of, Call, list_after_call}

-- "that rack has 40 or no row is free"
pub data NoRow (rack : ℕ) (l : OneList) : Type 0 where
  has_40 : owned rack l ≡ 40 → NoRow rack l
  none_free : free_rows l ≡ 0 → NoRow rack l

-- "full comes exactly when a clean UID arrives and that rack has 40 or no row is free": of a hearing that is served. So freed rows "are used again before
-- any answer is refused"
pub record FullExactly (rack : ℕ) (slot : Slot) (l : OneList) (h : SharedHearing) : Type 0 where
  pub clean : h.walk.ending ≡ full → (u : ℕ) × (slot ≡ Clean u)
  pub no_row : h.walk.ending ≡ full → NoRow rack l
  pub fills : (u : ℕ) → slot ≡ Clean u → NoRow rack l → h.walk.ending ≡ full

unfoldable pub FullExactlyAlways : Type 0
FullExactlyAlways =
    (w : Walk) (rack : ℕ) (kind : Kind) (bytes : List ℕ) (l : OneList) → hear_refusal w rack (length l.rows) l.owners ≡ 0
    → FullExactly rack (judged w kind bytes) l (shared_hearing w rack kind bytes l.rows l.owners)

-- "A UID goes into the lowest free row.": that row was free, no lower one was, and nothing else of the list changes
pub record Takes (rack uid : ℕ) (l : OneList) (h : SharedHearing) : Type 0 where
  pub row : ℕ
  pub within : row < 64
  pub was_free : get_or l.owners row 0 ≡ 255
  pub lowest : (i : ℕ) → i < row → get_or l.owners i 0 ≡ 255 → ⊥
  pub rows : h.rows ≡ set l.rows row uid
  pub owners : h.owners ≡ set l.owners row rack

pub record Stays (l : OneList) (h : SharedHearing) : Type 0 where
  pub rows : h.rows ≡ l.rows
  pub owners : h.owners ≡ l.owners

pub record TheRow (w : Walk) (rack : ℕ) (kind : Kind) (bytes : List ℕ) (l : OneList) (h : SharedHearing) : Type 0 where
  pub taken : hear_refusal w rack (length l.rows) l.owners ≡ 0 → (u : ℕ) → judged w kind bytes ≡ Clean u → (NoRow rack l → ⊥) → Takes rack u l h
  -- no clean UID, or no row for it
  pub stays : ((u : ℕ) → judged w kind bytes ≡ Clean u → NoRow rack l) → Stays l h
  -- "A call that can't be served .. changes nothing."
  pub refused : (hear_refusal w rack (length l.rows) l.owners ≡ 0 → ⊥) → Stays l h

unfoldable pub TheRowAlways : Type 0
TheRowAlways =
    (w : Walk) (rack : ℕ) (kind : Kind) (bytes : List ℕ) (l : OneList)
    → TheRow w rack kind bytes l (shared_hearing w rack kind bytes l.rows l.owners)

-- "Starting a rack's walk anew frees its rows (marks only)": of a start that is served, mark by mark
pub record Frees (rack family : ℕ) (owners : List ℕ) (s : Starting) : Type 0 where
  pub walk : s.walk ≡ started family
  pub long : length s.owners ≡ length owners
  pub marks : (i : ℕ) → i < 64 → get_or s.owners i 0 ≡ cond (eqb (get_or owners i 0) rack) 255 (get_or owners i 0)
  pub past : (i : ℕ) → 64 ≤ i → get_or s.owners i 0 ≡ get_or owners i 0

unfoldable pub StartFrees : Type 0
StartFrees =
    (w : Walk) (rack family : ℕ) (owners : List ℕ) → start_refusal rack owners ≡ 0 → Frees rack family owners (starting w rack family owners)

-- ---- the other rack

-- "Hearing on one rack changes no row of the other", and no call does: rack s keeps its rows, and gets none
pub record Keeps (s : ℕ) (l l' : OneList) : Type 0 where
  pub marks : (i : ℕ) → i < 64 → get_or l.owners i 0 ≡ s → get_or l'.owners i 0 ≡ s
  pub rows : (i : ℕ) → i < 64 → get_or l.owners i 0 ≡ s → get_or l'.rows i 0 ≡ get_or l.rows i 0
  pub none_new : (i : ℕ) → i < 64 → get_or l'.owners i 0 ≡ s → get_or l.owners i 0 ≡ s
  pub list : rows_of s l' ≡ rows_of s l

unfoldable pub OtherKeeps : Type 0
OtherKeeps = (rack s : ℕ) (call : Call) (l : OneList) → s ≤ 1 → (s ≡ rack → ⊥) → Keeps s l (list_after_call rack call l)

-- after a hearing each call for the other rack is refused exactly as before
unfoldable pub RefusedAsBefore : Type 0
RefusedAsBefore =
    (w : Walk) (rack : ℕ) (kind : Kind) (bytes : List ℕ) (l : OneList) (s : ℕ) → (s ≡ rack → ⊥)
    → let h : SharedHearing = shared_hearing w rack kind bytes l.rows l.owners in
    ((v : Walk) → hear_refusal v s (length h.rows) h.owners ≡ hear_refusal v s (length l.rows) l.owners)
    × (start_refusal s h.owners ≡ start_refusal s l.owners)

-- after a start none is refused that was not before; one that got 10 because the started rack owned over 40 is now served
pub record ServedAfterStart (v : Walk) (s rows : ℕ) (l : OneList) (owners : List ℕ) : Type 0 where
  pub starts : start_refusal s owners ≡ start_refusal s l.owners
  pub serves : hear_refusal v s rows l.owners ≡ 0 → hear_refusal v s rows owners ≡ 0
  pub now_served : is_accepted v ≡ true → is_running v ≡ true → Shareable l → owned s l ≤ 40 → v.count ≡ owned s l → hear_refusal v s rows owners ≡ 0

unfoldable pub ServedAfterStartAlways : Type 0
ServedAfterStartAlways =
    (w : Walk) (rack family : ℕ) (l : OneList) (s : ℕ) (v : Walk) → s ≤ 1 → rack ≤ 1 → (s ≡ rack → ⊥)
    → ServedAfterStart v s (length l.rows) l (starting w rack family l.owners).owners

-- ---- "its answer and next walk depends on the other only through the number of free rows"

-- two lists that number 5 accepts, with as many free rows and as many own
pub record Alike (rack : ℕ) (l l' : OneList) : Type 0 where
  pub fits : Shareable l
  pub fits' : Shareable l'
  pub free : free_rows l ≡ free_rows l'
  pub own : owned rack l ≡ owned rack l'

pub record SameHeard (rack : ℕ) (l l' : OneList) (h h' : SharedHearing) : Type 0 where
  pub number : h.number ≡ h'.number
  pub walk : h.walk ≡ h'.walk
  -- "apart from the row chosen, its answer and next walk depends on the other only through the number of free rows": the rack's rows then hold each UID as often, where they did
  pub lists : ((u : ℕ) → times u (rows_of rack l) ≡ times u (rows_of rack l'))
      → (u : ℕ) → times u (rows_of rack (record { rows = h.rows; owners = h.owners })) ≡ times u (rows_of rack (record { rows = h'.rows; owners = h'.owners }))

unfoldable pub FreeRowsAlone : Type 0
FreeRowsAlone =
    (w : Walk) (rack : ℕ) (kind : Kind) (bytes : List ℕ) (l l' : OneList) → Alike rack l l'
    → SameHeard rack l l' (shared_hearing w rack kind bytes l.rows l.owners) (shared_hearing w rack kind bytes l'.rows l'.owners)
