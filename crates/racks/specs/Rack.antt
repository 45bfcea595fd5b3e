-- 02, W5: demand 3 for a rack. Its slots are played over its cards; in between come any calls for the other rack, which its
-- cards do not hear.
use Rattle.std.specs.Prelude.{ℕ, suc, ◌+◌, ◌-◌, ◌*◌, ◌/◌, ◌≤◌, ◌<◌, false, List, [], ◌∷◌, ◌≡◌, length}
use Rattle.tails.specs.Sum.{times}
use Rattle.tails.specs.Tails.{shared_tails}
use Rattle.walk.specs.declared.Walk.{Walk}
use Rattle.walk.specs.Record.{complete, twins, full, is_running}
use Rattle.walk.specs.Ask.{Asking, asking}
use Rattle.walk.specs.Shared.{Starting, starting, SharedHearing, shared_hearing}
use Rattle.play.specs.Life.{Tag}
use Rattle.field.specs.Field.{answering, tags_after, replies, Arrival, arrives}
use Rattle.field.specs.Found.{Different, BeginE0, Twins}
use Rattle.field.specs.Foreign.{as_heard}
use Rattle.field.specs.Demand.{AllObey, cards_left, cards, memories, lock_bytes}
use Rattle.racks.specs.Calls.{OneList, Shareable, owned, rows_of, Call, list_after_call}

-- all that stands on a rack's desk: its walk, the list, the room for what it sends, and its cards
pub record Desk : Type 0 where
  pub walk : Walk
  pub list : OneList
  pub room : List ℕ
  pub tags : List Tag

-- what happens: something of the rack's own, or a call with any other number, of the other rack or of none
pub data Happening (Own : Type 0) (rack : ℕ) : Type 0 where
  own : Own → Happening Own rack
  other : (number : ℕ) → (number ≡ rack → ⊥) → Call → Happening Own rack

-- how many were the rack's own
unfoldable pub own_events : {Own : Type 0} {rack : ℕ} → List (Happening Own rack) → ℕ
own_events [] = 0
own_events (own o ∷ events) = suc (own_events events)
own_events (other number e call ∷ events) = own_events events

-- a slot of the rack's own, its cards hearing what it sends: "One reply arrives whole; two or more in a slot arrive as a clash."
unfoldable pub slot_played_on : ℕ → Desk → Desk
slot_played_on rack d =
    let a : Asking = asking d.walk d.room in
    let heard : Arrival = arrives (replies a.send a.room d.tags) in
    let h : SharedHearing = shared_hearing d.walk rack heard.kind heard.bytes d.list.rows d.list.owners in
    record {
      walk = h.walk;
      list = record { rows = h.rows; owners = h.owners };
      room = a.room;
      tags = tags_after a.send a.room d.tags;
    }

unfoldable pub event_played : (rack : ℕ) → Happening (Unit {0}) rack → Desk → Desk
event_played rack (own o) d = slot_played_on rack d
event_played rack (other number e call) d =
    record { walk = d.walk; list = list_after_call number call d.list; room = d.room; tags = d.tags }

unfoldable pub played_on : (rack : ℕ) → List (Happening (Unit {0}) rack) → Desk → Desk
played_on rack [] d = d
played_on rack (e ∷ events) d = played_on rack events (event_played rack e d)

-- "Starting a rack's walk anew": whatever walk stood there
unfoldable pub started_on : ℕ → Walk → ℕ → OneList → List ℕ → List Tag → Desk
started_on rack w family l room tags =
    let s : Starting = starting w rack family l.owners in
    record { walk = s.walk; list = record { rows = l.rows; owners = s.owners }; room = room; tags = tags }

-- a rack's walk at its end, us being the UIDs of the cards that answer its family, list the rows that it owns
pub record FoundOn (us : List ℕ) (w : Walk) (list : List ℕ) : Type 0 where
  pub ends : is_running w ≡ false
  -- "For such a list demand 3, and that two alike always end in twins, then hold for up to 24 cards"
  pub completes : length us ≤ 24 → Different us → w.ending ≡ complete
  pub different : w.ending ≡ complete → Different us
  pub each_once : w.ending ≡ complete → (u : ℕ) → times u list ≡ times u us
  pub count : w.ending ≡ complete → w.count ≡ length us
  pub holds : length list ≡ w.count
  pub rounds : w.ending ≡ complete → w.rounds ≡ 1 + shared_tails us
  pub rounds_most : w.ending ≡ complete → w.rounds ≤ 1 + 13 * (length us / 2)
  -- "two alike always end in twins"
  pub alike : length us ≤ 24 → (Different us → ⊥) → w.ending ≡ twins
  pub twins_alike : w.ending ≡ twins → Twins 13 us w
  -- "from 25 to 40 it may also end full": not below
  pub full_many : w.ending ≡ full → 24 < length us
  -- "above 40 it never ends complete"
  pub few : w.ending ≡ complete → length us ≤ 40
  pub at_most : w.count ≤ 40
  -- 01: "overrun needs false replies"
  pub no_overrun : w.ending ≤ full

-- us being the UIDs that count
pub record DemandOf (rack family : ℕ) (tags : List Tag) (us : List ℕ) (d : Desk) : Type 0 where
  pub found : FoundOn us d.walk (rows_of rack d.list)
  -- the cards keep all but sequence and held answer
  pub cards_left : cards d.tags ≡ cards_left family d.walk tags
  pub memories_left : memories d.tags ≡ memories tags
  pub locks_left : lock_bytes d.tags ≡ lock_bytes tags

abbrev pub DemandOn : ℕ → ℕ → List Tag → Desk → Type 0
DemandOn rack family tags d = DemandOf rack family tags (answering family tags) d

-- the rack is started over any rows and marks that number 5 accepts, the other rack owning 40 at the most; then any schedule with 16 × 417 slots of
-- its own or more. 02, W6: "every answering UID begins with E0"
unfoldable pub RackDemand3 : Type 0
RackDemand3 =
    (rack family : ℕ) (w : Walk) (tags : List Tag) (l : OneList) (room : List ℕ) (events : List (Happening (Unit {0}) rack))
    → rack ≤ 1 → AllObey tags → BeginE0 (answering family tags) → Shareable l → owned (1 - rack) l ≤ 40 → 14 ≤ length room
    → 16 * 417 ≤ own_events events
    → DemandOn rack family tags (played_on rack events (started_on rack w family l room tags))

-- without that premise, of UIDs that begin with anything: one that does not begin with E0 counts twice
pub record FoundAnyOn (us : List ℕ) (w : Walk) (list : List ℕ) : Type 0 where
  pub ends : is_running w ≡ false
  pub complete_e0 : w.ending ≡ complete → BeginE0 us
  pub complete_found : w.ending ≡ complete → FoundOn us w list
  pub foreign_twins : length (as_heard us) ≤ 24 → (BeginE0 us → ⊥) → w.ending ≡ twins
  pub no_overrun : w.ending ≤ full

unfoldable pub RackAnyUids : Type 0
RackAnyUids =
    (rack family : ℕ) (w : Walk) (tags : List Tag) (l : OneList) (room : List ℕ) (events : List (Happening (Unit {0}) rack))
    → rack ≤ 1 → AllObey tags → Shareable l → owned (1 - rack) l ≤ 40 → 14 ≤ length room → 16 * 417 ≤ own_events events
    → let d : Desk = played_on rack events (started_on rack w family l room tags) in
    FoundAnyOn (answering family tags) d.walk (rows_of rack d.list)
