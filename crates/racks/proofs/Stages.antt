-- A rack's walk over its cards, event by event: after each slot of its own it hears on, or it has ended with a verdict on the UIDs of the cards that
-- answer; a call for the other rack leaves it where it was. By field's laws of a slot, over the rows that the rack owns. Assumes nothing.
use mathlib.Core.Path.{◌≡◌, sym, ap, ap₂, subst, subst⁻¹, ◌∙◌}
use mathlib.Core.Bool.{true, false}
use mathlib.Core.List.{List, [], ◌∷◌}
use Prim.Native.Nat.{ℕ, suc, ◌+◌, ◌≤◌, ◌<◌}
use native.Mathlib.Omega.{arith}
use lib.ListN.{length}
use Rattle.walk.specs.declared.Walk.{Walk}
use Rattle.walk.specs.declared.Slot.{Slot}
use Rattle.walk.specs.Marks.{levels}
use Rattle.walk.specs.Record.{whole_mask, is_accepted, is_running, ended, remade}
use Rattle.walk.specs.Hear.{walk_after, list_after}
use Rattle.walk.specs.Ask.{asking}
use Rattle.walk.specs.Shared.{list_of, lowest_free, has_row, owners_after}
use Rattle.walk.proofs.Rows.{length_list_of}
use Rattle.walk.proofs.SharedWays.{SharedServed, shared_heard}
use Rattle.play.specs.Life.{Tag}
use Rattle.field.specs.Field.{replies, Arrival, arrives}
use Rattle.field.specs.Found.{BeginE0}
use Rattle.field.specs.Demand.{AllObey}
use Rattle.field.proofs.Called.{called, slot_of}
use Rattle.field.proofs.FixedField.{Fixed}
use Rattle.field.proofs.Accepted.{walks_accepted, walks_level}
use Rattle.field.proofs.InTime.{AtSlot, Both, Before}
use Rattle.field.proofs.Next.{Suits, Next, moves, opens, stops}
use Rattle.field.proofs.Steps.{slot_next}
use Rattle.field.proofs.Suited.{e0_suit}
use Rattle.field.proofs.WalkServed.{ended_asked, nothing_reached}
use Rattle.field.proofs.PlayedSlot.{Brings, Arrived, slot_arrives}
use Rattle.field.proofs.Stages.{StageOf, hears, rests, next_stage, running_of}
use Rattle.racks.specs.Calls.{OneList, rows_of, Call, list_after_call}
use Rattle.racks.specs.Rack.{Desk, Happening, own, other, own_events, slot_played_on, event_played, played_on}
use Rattle.racks.proofs.Changed.{hearing, call_after, heard_after, Sharing, sharing_after, other_list, other_rows, row_open, fits_length, shared_ended}
use Rattle.racks.proofs.OwnSlot.{Owning, owning_served, row_few, row_none, own_lists}

-- the stage of a rack's walk
abbrev pub Stage : ℕ → ℕ → List Tag → List ℕ → ℕ → Desk → Type 0
Stage rack family tags us n d =
    StageOf (Owning rack d.walk d.list.rows d.list.owners) levels 24 family tags us n d.walk
    (rows_of rack d.list) d.room d.tags

-- with the same walk, cards and list of UIDs
stage_moved : {Holds Holds' : Type 0} {n family : ℕ} {tags : List Tag} {us : List ℕ} {w : Walk} {ls ls' room : List ℕ} {ts : List Tag} → (Holds → Holds')
    → ls' ≡ ls → StageOf Holds levels 24 family tags us n w ls room ts → StageOf Holds' levels 24 family tags us n w ls' room ts
stage_moved {Holds} {Holds'} {n} {family} {tags} {us} {w} {ls} {ls'} {room} {ts} f e (hears k g h r y m c b) =
    subst (λ (l : List ℕ). StageOf Holds' levels 24 family tags us n w l room ts) (sym e) (hears (f k) g h r y m c b)
stage_moved {Holds} {Holds'} {n} {family} {tags} {us} {w} {ls} {ls'} {room} {ts} f e (rests k a r v b) =
    subst (λ (l : List ℕ). StageOf Holds' levels 24 family tags us n w l room ts) (sym e) (rests (f k) a r v b)

-- ---- a slot of its own

-- as many are listed as the next walk counts
next_number : {fewest : ℕ} {us : List ℕ} {w w' : Walk} {ls' : List ℕ} → Next levels fewest us w w' ls' → length ls' ≡ w'.count
unfolding ended remade
next_number (moves g s l m t y z r) = g.walks.number
next_number (opens g s t y z r) = g.walks.number
next_number (stops g k e same v) = g.walks.number ∙ sym (ap (λ (x : Walk). x.count) same)

-- what a slot of a walk that hears leaves on the desk
pub record Played (rack family : ℕ) (tags : List Tag) (us : List ℕ) (d d' : Desk) : Type 0 where
  pub walk : d'.walk ≡ walk_after d.walk (slot_of (called us d.walk)) (has_row rack d.list.owners)
  pub rows : d'.list.rows ≡ list_after d.walk (slot_of (called us d.walk)) (has_row rack d.list.owners) (lowest_free d.list.owners) d.list.rows
  pub owners : d'.list.owners ≡ owners_after (slot_of (called us d.walk)) (has_row rack d.list.owners) (lowest_free d.list.owners) rack d.list.owners
  pub room : length d'.room ≡ length d.room
  pub tags_left : Both (AtSlot family d.walk.level (whole_mask d.walk) d.walk.slot) tags d'.tags

slot_played_lem : (rack family : ℕ) (tags : List Tag) (us : List ℕ) (d : Desk) → SharedServed d.walk rack (length d.list.rows) d.list.owners
    → Arrived arrives us family tags d.walk d.room d.tags → Played rack family tags us d (slot_played_on rack d)
unfolding slot_played_on
slot_played_lem rack family tags us d served arrived =
    let w : Walk = d.walk in
    let heard : Arrival = arrives (replies (asking w d.room).send (asking w d.room).room d.tags) in
    rw (shared_heard w rack heard.kind heard.bytes d.list.rows d.list.owners served)
    (record {
      walk = ap (λ (s : Slot). walk_after w s (has_row rack d.list.owners)) arrived.heard;
      rows = ap (λ (s : Slot). list_after w s (has_row rack d.list.owners) (lowest_free d.list.owners) d.list.rows) arrived.heard;
      owners = ap (λ (s : Slot). owners_after s (has_row rack d.list.owners) (lowest_free d.list.owners) rack d.list.owners) arrived.heard;
      room = arrived.room;
      tags_left = arrived.tags;
    })

-- an ended walk's slot
pub ended_played : (rack : ℕ) (d : Desk) → rack ≤ 1 → is_accepted d.walk ≡ true → is_running d.walk ≡ false → slot_played_on rack d ≡ d
unfolding slot_played_on
ended_played rack d is accepted ended =
    rw (
      ended_asked d.walk d.room accepted ended,
      shared_ended d.walk rack _ _ d.list.rows d.list.owners is accepted ended,
      nothing_reached d.room d.tags,
    )

-- the list is shared as before
sharing_own : (rack : ℕ) (d : Desk) → Sharing d.list.rows d.list.owners → Sharing (slot_played_on rack d).list.rows (slot_played_on rack d).list.owners
unfolding slot_played_on
sharing_own rack d s =
    let heard : Arrival = arrives (replies (asking d.walk d.room).send (asking d.walk d.room).room d.tags) in
    sharing_after rack d.list.rows d.list.owners _ _ (hearing (heard_after d.walk rack heard.kind heard.bytes d.list.rows d.list.owners)) s

-- a slot of a walk that hears
pub hears_played : (rack family : ℕ) (tags : List Tag) (us : List ℕ) (d : Desk) → rack ≤ 1 → AllObey tags → BeginE0 us → Brings arrives levels us family tags → Owning rack d.walk d.list.rows d.list.owners
    → Fixed levels us d.walk (rows_of rack d.list) d.walk.slot → d.walk.slot < 16 → d.walk.ending ≡ 0
    → d.walk.family ≡ family → 14 ≤ length d.room → Before family d.walk.level (whole_mask d.walk) d.walk.slot tags d.tags
    → Played rack family tags us d (slot_played_on rack d)
hears_played rack family tags us d is obey begin brings o g h e f room row =
    let w : Walk = d.walk in
    let ls : List ℕ = rows_of rack d.list in
    let accepted : is_accepted w ≡ true = walks_accepted w ls w.slot h g.walks in
    let fit : Suits levels us = e0_suit us begin in
    let level : w.level < 16 = walks_level w ls w.slot fit.most g.walks in
    slot_played_lem rack family tags us d (owning_served rack w d.list.rows d.list.owners is accepted (running_of w e) o)
    (slot_arrives arrives us family tags w d.room d.tags obey (subst⁻¹ (λ (n : ℕ). Brings arrives n us family tags) g.walks.marks_length brings) accepted level (running_of w e) f room row)

pub stage_own : (rack family : ℕ) (tags : List Tag) (us : List ℕ) (n : ℕ) (d : Desk) → rack ≤ 1 → AllObey tags → BeginE0 us → Brings arrives levels us family tags
    → Stage rack family tags us n d → Stage rack family tags us (suc n) (slot_played_on rack d)
stage_own rack family tags us n d is obey begin brings (hears o g h e f room count row) =
    let w : Walk = d.walk in
    let rows : List ℕ = d.list.rows in
    let owners : List ℕ = d.list.owners in
    let d' : Desk = slot_played_on rack d in
    let ls : List ℕ = rows_of rack d.list in
    let slot : Slot = slot_of (called us w) in
    let fit : Suits levels us = e0_suit us begin in
    let accepted : is_accepted w ≡ true = walks_accepted w ls w.slot h g.walks in
    let level : w.level < 16 = walks_level w ls w.slot fit.most g.walks in
    let served = owning_served rack w rows owners is accepted (running_of w e) o in
    let p : Played rack family tags us d d' = hears_played rack family tags us d is obey begin brings o g h e f room row in
    let listed : rows_of rack d'.list ≡ list_of rack (list_after w slot (has_row rack owners) (lowest_free owners) rows) (owners_after slot (has_row rack owners) (lowest_free owners) rack owners) = ap₂ (list_of rack) p.rows p.owners in
    let next : Next levels 24 us w (walk_after w slot (has_row rack owners)) (list_of rack (list_after w slot (has_row rack owners) (lowest_free owners) rows) (owners_after slot (has_row rack owners) (lowest_free owners) rack owners)) = slot_next 24 us w ls _ (has_row rack owners) fit h g (λ b. omega (arith, row_few rack owners b, o.number)) (λ b. omega (arith, row_none rack rows owners is o.sharing b, o.number)) (own_lists w rack rows owners slot (has_row rack owners) (row_open w rack rows owners served)) in
    let next' : Next levels 24 us w d'.walk (rows_of rack d'.list) = subst (λ (x : Walk). Next levels 24 us w x (rows_of rack d'.list)) (sym p.walk) (subst (λ (l : List ℕ). Next levels 24 us w (walk_after w slot (has_row rack owners)) l) (sym listed) next) in
    let kept : Sharing d'.list.rows d'.list.owners = sharing_own rack d o.sharing in
    next_stage family tags us n w d'.walk (rows_of rack d'.list) d'.room d'.tags
    (record { sharing = kept; number = sym (next_number next') ∙ length_list_of rack d'.list.rows d'.list.owners kept.rows_fit (fits_length d'.list.owners kept.owners_fit) })
    obey g.walks.steady level h e f (rw p.room room) count p.tags_left next'
stage_own rack family tags us n d is obey begin brings (rests o a r v row) =
    subst (λ (x : Desk). Stage rack family tags us (suc n) x) (sym (ended_played rack d is a r)) (rests o a r v row)

-- ---- a call for the other rack

pub stage_other : (rack family : ℕ) (tags : List Tag) (us : List ℕ) (n : ℕ) (d : Desk) (number : ℕ) (e : number ≡ rack → ⊥) (call : Call) → rack ≤ 1
    → Stage rack family tags us n d → Stage rack family tags us n (event_played rack (other number e call) d)
unfolding event_played
stage_other rack family tags us n d number e call is s =
    let after = call_after number call d.list in
    let l' : OneList = list_after_call number call d.list in
    stage_moved
    (λ (o : Owning rack d.walk d.list.rows d.list.owners). record {
      sharing = sharing_after number d.list.rows d.list.owners l'.rows l'.owners after o.sharing;
      number = o.number ∙ sym (other_rows number rack d.list.rows d.list.owners l'.rows l'.owners after is (λ f. e (sym f)));
    })
    (other_list number rack d.list.rows d.list.owners l'.rows l'.owners after is (λ f. e (sym f))) s

-- ---- the schedule

pub stage_event : (rack family : ℕ) (tags : List Tag) (us : List ℕ) (n : ℕ) (events : List (Happening (Unit {0}) rack)) (d : Desk) → rack ≤ 1 → AllObey tags
    → BeginE0 us → Brings arrives levels us family tags → Stage rack family tags us n d → Stage rack family tags us (n + own_events events) (played_on rack events d)
unfolding played_on own_events event_played
stage_event rack family tags us n [] d is obey begin brings s = subst (λ (k : ℕ). Stage rack family tags us k d) (omega arith) s
stage_event rack family tags us n (own o ∷ events) d is obey begin brings s =
    subst (λ (k : ℕ). Stage rack family tags us k (played_on rack events (slot_played_on rack d))) (omega arith)
    (stage_event rack family tags us (suc n) events (slot_played_on rack d) is obey begin brings (stage_own rack family tags us n d is obey begin brings s))
stage_event rack family tags us n (other number e call ∷ events) d is obey begin brings s =
    stage_event rack family tags us n events (event_played rack (other number e call) d) is obey begin brings (stage_other rack family tags us n d number e call is s)
