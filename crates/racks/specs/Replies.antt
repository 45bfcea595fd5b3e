-- 02, W5, over any replies, true or false: a rack's walk from its start on, and two racks that go on with their own records.
use Rattle.std.specs.Prelude.{ℕ, zero, suc, ◌+◌, ◌-◌, ◌*◌, ◌/◌, ◌^◌, ◌≤◌, true, false, cond, List, [], ◌∷◌, ◌≡◌, length}
use Rattle.tails.specs.Sum.{times}
use Rattle.walk.specs.declared.Walk.{Walk}
use Rattle.walk.specs.Record.{is_running}
use Rattle.walk.specs.Shared.{start_refusal, hear_refusal, Starting, starting, SharedHearing, shared_hearing}
use Rattle.field.specs.Field.{Arrival}
use Rattle.racks.specs.Calls.{OneList, Shareable, owned, rows_of, list_after_call}
use Rattle.racks.specs.Rack.{Happening, own, other, own_events}

-- a rack's walk and the list
pub record RackWalk : Type 0 where
  pub walk : Walk
  pub list : OneList

unfoldable pub heard_on : ℕ → Arrival → RackWalk → RackWalk
heard_on rack a p =
    let h : SharedHearing = shared_hearing p.walk rack a.kind a.bytes p.list.rows p.list.owners in
    record { walk = h.walk; list = record { rows = h.rows; owners = h.owners } }

unfoldable pub fresh_on : ℕ → ℕ → RackWalk → RackWalk
fresh_on rack family p =
    let s : Starting = starting p.walk rack family p.list.owners in
    record { walk = s.walk; list = record { rows = p.list.rows; owners = s.owners } }

unfoldable pub happens : (rack : ℕ) → Happening Arrival rack → RackWalk → RackWalk
happens rack (own a) p = heard_on rack a p
happens rack (other number e call) p = record { walk = p.walk; list = list_after_call number call p.list }

unfoldable pub happens_all : (rack : ℕ) → List (Happening Arrival rack) → RackWalk → RackWalk
happens_all rack [] p = p
happens_all rack (e ∷ events) p = happens_all rack events (happens rack e p)

-- after n slots of the rack's own, whatever arrived in them
pub record HoldsOn (rack n : ℕ) (p : RackWalk) : Type 0 where
  -- "No UID is listed twice in a walk"
  pub once : (u : ℕ) → times u (rows_of rack p.list) ≤ 1
  -- 02, W6: "a clean reply whose UID doesn't start with E0 is a clash": every UID in its rows begins with it
  pub begins : (u : ℕ) → 1 ≤ times u (rows_of rack p.list) → u / 2 ^ 56 ≡ 0xe0
  -- its hearing gives 0 while it runs, and 6 after its ending
  pub answers : hear_refusal p.walk rack (length p.list.rows) p.list.owners ≡ cond (is_running p.walk) 0 6
  pub counted : is_running p.walk ≡ true → 16 * p.walk.rounds + p.walk.slot ≡ 16 + n
  pub ends : 16 * 417 ≤ n → is_running p.walk ≡ false

unfoldable pub AnyRepliesOn : Type 0
AnyRepliesOn =
    (rack family : ℕ) (p : RackWalk) (events : List (Happening Arrival rack)) → rack ≤ 1 → Shareable p.list → owned (1 - rack) p.list ≤ 40
    → HoldsOn rack (own_events events) (happens_all rack events (fresh_on rack family p))

-- ---- both racks, each with its own record

pub record TwoRacks : Type 0 where
  pub first : Walk
  pub second : Walk
  pub list : OneList

pub data Turn : Type 0 where
  starts : ℕ → Turn
  hears : Arrival → Turn

unfoldable pub turn_of : Turn → ℕ → RackWalk → RackWalk
turn_of (starts family) rack p = fresh_on rack family p
turn_of (hears a) rack p = heard_on rack a p

-- a turn of rack 0, of rack 1, or with a number that is no rack, over the first one's record
unfoldable pub turned : ℕ → Turn → TwoRacks → TwoRacks
turned zero turn p =
    let q : RackWalk = turn_of turn 0 (record { walk = p.first; list = p.list }) in
    record { first = q.walk; second = p.second; list = q.list }
turned (suc zero) turn p =
    let q : RackWalk = turn_of turn 1 (record { walk = p.second; list = p.list }) in
    record { first = p.first; second = q.walk; list = q.list }
turned (suc (suc n)) turn p =
    let q : RackWalk = turn_of turn (suc (suc n)) (record { walk = p.first; list = p.list }) in
    record { first = q.walk; second = p.second; list = q.list }

pub record Move : Type 0 where
  pub rack : ℕ
  pub turn : Turn

unfoldable pub turned_all : List Move → TwoRacks → TwoRacks
turned_all [] p = p
turned_all (m ∷ moves) p = turned_all moves (turned m.rack m.turn p)

-- once both have been started, every start is served, and every hearing is served or comes after that walk's ending
pub record BothGoOn (p : TwoRacks) : Type 0 where
  pub first_hears : hear_refusal p.first 0 (length p.list.rows) p.list.owners ≡ cond (is_running p.first) 0 6
  pub second_hears : hear_refusal p.second 1 (length p.list.rows) p.list.owners ≡ cond (is_running p.second) 0 6
  pub first_starts : start_refusal 0 p.list.owners ≡ 0
  pub second_starts : start_refusal 1 p.list.owners ≡ 0
  pub first_once : (u : ℕ) → times u (rows_of 0 p.list) ≤ 1
  pub second_once : (u : ℕ) → times u (rows_of 1 p.list) ≤ 1

unfoldable pub BothGoOnAlways : Type 0
BothGoOnAlways =
    (family family' : ℕ) (p : TwoRacks) (moves : List Move) → Shareable p.list
    → BothGoOn (turned_all moves (turned 1 (starts family') (turned 0 (starts family) p)))

-- and so with any turns between the two starts, in either order, where the rack that is started later owned 40 rows at the most
unfoldable pub BothGoOnLater : Type 0
BothGoOnLater =
    (family family' : ℕ) (p : TwoRacks) (between moves : List Move) → Shareable p.list
    → (owned 1 p.list ≤ 40 → BothGoOn (turned_all moves (turned 1 (starts family') (turned_all between (turned 0 (starts family) p)))))
    × (owned 0 p.list ≤ 40 → BothGoOn (turned_all moves (turned 0 (starts family) (turned_all between (turned 1 (starts family') p)))))
