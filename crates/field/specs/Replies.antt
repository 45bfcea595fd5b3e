-- 01, The walk, over any replies, true or false: "No UID is listed twice in a walk, even with false replies."
use Rattle.std.specs.Prelude.{ℕ, ◌+◌, ◌*◌, ◌≤◌, true, false, List, [], ◌∷◌, ◌≡◌, length}
use Rattle.slots.specs.Fits.{fits_slot}
use Rattle.tails.specs.Sum.{times}
use Rattle.walk.specs.declared.Walk.{Walk}
use Rattle.walk.specs.Record.{levels_of, mask_length, whole_mask, is_accepted, is_running, started}
use Rattle.walk.specs.Hear.{starts_e0, Hearing, hearing}
use Rattle.field.specs.Field.{Arrival}
use Rattle.field.specs.Found.{listed}

-- 01: "Bytes are clean if they are 12, checked, flags 00, and the UID fits mask and slot"; 02, W6: and starts with E0. What a UID that the walk w takes
-- for clean has
pub record FitsClean (w : Walk) (u : ℕ) : Type 0 where
  pub fits : fits_slot u (mask_length w.level) (whole_mask w) w.slot ≡ true
  pub starts : starts_e0 (levels_of w) u ≡ true

-- a walk with its list
pub record Walked : Type 0 where
  pub walk : Walk
  pub list : List ℕ

unfoldable pub heard_in : Walked → Arrival → Walked
heard_in p a =
    let h : Hearing = hearing p.walk a.kind a.bytes p.list in
    record { walk = h.walk; list = h.list }

-- slot after slot
unfoldable pub heard_all : List Arrival → Walked → Walked
heard_all [] p = p
heard_all (a ∷ rest) p = heard_all rest (heard_in p a)

-- what holds after n slots, whatever arrived in them, of a walk of so many levels that may hear so many
pub record HoldsIn (levels most n : ℕ) (p : Walked) : Type 0 where
  -- number 10 accepts the record
  pub accepted : is_accepted p.walk ≡ true
  -- "No UID is listed twice"
  pub once : (u : ℕ) → times u (listed p.walk p.list) ≤ 1
  -- 02, W6: "a clean reply whose UID doesn't start with E0 is a clash": every UID that is listed begins with it
  pub begins : (u : ℕ) → 1 ≤ times u (listed p.walk p.list) → starts_e0 levels u ≡ true
  -- "The round count stands in the walk and equals the rounds of the definition.": sixteen slots each
  pub counted : is_running p.walk ≡ true → 16 * p.walk.rounds + p.walk.slot ≡ 16 + n
  -- the walk has ended after these
  pub ends : most ≤ n → is_running p.walk ≡ false

-- the fourteen levels of a fresh walk: it has ended after 16 × 417 slots
abbrev pub Holds : ℕ → Walked → Type 0
Holds n p = HoldsIn 14 (16 * 417) n p

unfoldable pub AnyReplies : Type 0
AnyReplies =
    (family : ℕ) (list : List ℕ) (arrivals : List Arrival) → 64 ≤ length list
    → Holds (length arrivals) (heard_all arrivals (record { walk = started family; list = list }))
