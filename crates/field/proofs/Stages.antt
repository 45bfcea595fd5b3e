-- A fresh walk over cards, slot by slot: it hears, and 16 × rounds + slot has grown by one a slot, or it has ended.
-- By the slot that is played and the slot that the UIDs bring. Assumes nothing.
use mathlib.Core.Path.{◌≡◌, refl, sym, ap, subst, subst⁻¹, ◌∙◌}
use mathlib.Core.Bool.{true, false}
use Prim.Native.Nat.{ℕ, zero, suc, ◌+◌, ◌*◌, ◌≤◌, ◌<◌}
use native.Mathlib.Omega.{arith}
use mathlib.Core.List.{List, []}
use borrow.Author.Tests.{eq-eqb, ne_eqb}
use lib.ListN.{length}
use Rattle.walk.specs.declared.Walk.{Walk}
use Rattle.walk.specs.declared.Slot.{Slot}
use Rattle.walk.specs.Marks.{levels}
use Rattle.walk.specs.Record.{whole_mask, is_running, is_accepted, started_of, started, ended, remade}
use Rattle.walk.specs.Hear.{has_place, walk_after, list_after}
use Rattle.walk.proofs.HearWays.{place_below, place_none, places_after}
use Rattle.walk.proofs.Limits.{is_accepted_of_accepted}
use Rattle.walk.proofs.Accepted.{ended_facts}
use Rattle.play.specs.Life.{Tag}
use Rattle.field.specs.Field.{Arrival, arrives, answering}
use Rattle.field.specs.Played.{Play, slot_played_by, slot_played, played_for_by, played_for, fresh_of, fresh}
use Rattle.field.specs.Found.{listed}
use Rattle.field.specs.Demand.{AllObey}
use Rattle.field.proofs.Steady.{Steady}
use Rattle.field.proofs.OwnList.{own_lists}
use Rattle.field.proofs.Accepted.{walks_accepted, walks_level}
use Rattle.field.proofs.FixedField.{Fixed, start_fixed}
use Rattle.field.proofs.Called.{called, slot_of}
use Rattle.field.proofs.Next.{Suits, Verdict, Kept, Next, moves, opens, stops}
use Rattle.field.proofs.Steps.{slot_next}
use Rattle.field.proofs.InTime.{AtSlot, Both, Before}
use Rattle.field.proofs.PlayedSlot.{Brings, SlotPlayedOf, SlotPlayed, slot_played_by_lem, ended_played_by, arrives_brings, at_slot_follows, follows_self}

-- after n slots of a walk of so many levels over the cards tags, those that answer having the UIDs us; ls are the UIDs listed, Holds is what holds of
-- where they stand, and with fewest of them or more a clean one may find no place
pub data StageOf (Holds : Type 0) (levels fewest family : ℕ) (tags : List Tag) (us : List ℕ) (n : ℕ) (w : Walk) (ls room : List ℕ) (ts : List Tag) : Type 0 where
  hears : Holds → Fixed levels us w ls w.slot → w.slot < 16 → w.ending ≡ 0 → w.family ≡ family → 14 ≤ length room
      → 16 * w.rounds + w.slot ≡ 16 + n → Before family w.level (whole_mask w) w.slot tags ts → StageOf Holds levels fewest family tags us n w ls room ts
  rests : Holds → is_accepted w ≡ true → is_running w ≡ false → Verdict levels fewest us w ls
      → Both (AtSlot family w.level (whole_mask w) w.slot) tags ts → StageOf Holds levels fewest family tags us n w ls room ts

-- with a list of the walk's own, of 64 places
abbrev pub Stage : ℕ → ℕ → List Tag → List ℕ → ℕ → Play → Type 0
Stage levels family tags us n p =
    StageOf (64 ≤ length p.list) levels 64 family tags us n p.walk (listed p.walk p.list) p.room p.tags

-- nothing is listed
pub start_stage : {Holds : Type 0} (levels fewest family : ℕ) (tags : List Tag) (us room : List ℕ) → 1 ≤ levels → Holds → AllObey tags
    → 14 ≤ length room → StageOf Holds levels fewest family tags us 0 (started_of levels family) [] room tags
unfolding started_of Before
start_stage levels fewest family tags us room least holds obey g =
    hears holds (start_fixed levels us family least) (omega arith) refl refl g (omega arith) (follows_self tags obey)

pub stage_start : (levels family : ℕ) (tags : List Tag) (us list room : List ℕ) → 1 ≤ levels → AllObey tags → 64 ≤ length list → 14 ≤ length room
    → Stage levels family tags us 0 (fresh_of levels family list room tags)
unfolding fresh_of started_of listed
stage_start levels family tags us list room least obey h g = start_stage levels 64 family tags us room least h obey g

pub stage_fresh : (family : ℕ) (tags : List Tag) (us list room : List ℕ) → AllObey tags → 64 ≤ length list → 14 ≤ length room
    → Stage levels family tags us 0 (fresh family list room tags)
unfolding fresh fresh_of started levels
stage_fresh family tags us list room obey h g = stage_start levels family tags us list room (omega arith) obey h g

-- a walk that is not running has an ending
pub running_of : (w : Walk) → w.ending ≡ 0 → is_running w ≡ true
unfolding is_running
running_of w h = eq-eqb w.ending 0 h

ended_stops : (e : ℕ) (w : Walk) → is_running (ended (suc e) w) ≡ false
unfolding is_running ended remade
ended_stops e w = ne_eqb (suc e) 0 (omega arith)

-- a row that was at the slot of w, for a walk with the same level, mask and slot
row_kept : (family : ℕ) (tags ts : List Tag) (w x : Walk) → Kept w x → Both (AtSlot family w.level (whole_mask w) w.slot) tags ts
    → Both (AtSlot family x.level (whole_mask x) x.slot) tags ts
unfolding whole_mask
row_kept family tags ts w x k row = rw (k.level, k.mask, k.slot) row

rest_of : {Holds : Type 0} {levels fewest : ℕ} (family : ℕ) (tags : List Tag) (us : List ℕ) (n : ℕ) (w x w' : Walk) (ls room : List ℕ) (ts : List Tag)
    (t e : ℕ) → Holds → Fixed levels us x ls t → Kept w x → w' ≡ ended (suc e) x → Verdict levels fewest us w' ls
    → Both (AtSlot family w.level (whole_mask w) w.slot) tags ts → StageOf Holds levels fewest family tags us n w' ls room ts
unfolding ended remade whole_mask
rest_of family tags us n w x w' ls room ts t e holds g k same verdict row =
    rests holds
    (subst (λ (y : Walk). is_accepted y ≡ true) (sym same) (is_accepted_of_accepted (ended (suc e) x) (ended_facts x g.walks.steady.accepted (suc e))))
    (subst (λ (y : Walk). is_running y ≡ false) (sym same) (ended_stops e x))
    verdict
    (subst (λ (y : Walk). Both (AtSlot family y.level (whole_mask y) y.slot) tags ts) (sym same) (row_kept family tags ts w x k row))

-- what the next slot finds
pub next_stage : {Holds : Type 0} {levels fewest : ℕ} (family : ℕ) (tags : List Tag) (us : List ℕ) (n : ℕ) (w w' : Walk) (ls' room' : List ℕ) (ts' : List Tag)
    → Holds → AllObey tags → Steady w w.slot → w.level < 16 → w.slot < 16 → w.ending ≡ 0 → w.family ≡ family → 14 ≤ length room'
    → 16 * w.rounds + w.slot ≡ 16 + n → Both (AtSlot family w.level (whole_mask w) w.slot) tags ts' → Next levels fewest us w w' ls'
    → StageOf Holds levels fewest family tags us (suc n) w' ls' room' ts'
unfolding Before whole_mask
next_stage {Holds} {levels} family tags us n w w' ls' room' ts' holds obey steady level h e f room count row (moves g s l m t y z r) =
    hears holds (subst (λ (k : ℕ). Fixed levels us w' ls' k) (sym t) g) (omega (arith, t)) (z ∙ e) (y ∙ f) room (omega (arith, t, r, count))
    (rw (l, m, t) row)
next_stage {Holds} {levels} family tags us n w w' ls' room' ts' holds obey steady level h e f room count row (opens g s t y z r) =
    hears holds (subst (λ (k : ℕ). Fixed levels us w' ls' k) (sym t) g) (omega (arith, t)) (z ∙ e) (y ∙ f) room (omega (arith, s, t, r, count))
    (rw t (at_slot_follows family w.level (whole_mask w) w.slot tags ts' obey level h steady.accepted.mask row))
next_stage family tags us n w w' ls' room' ts' holds obey steady level h e f room count row (stops {x} {t} g k d same verdict) =
    rest_of family tags us (suc n) w x w' ls' room' ts' t d holds g k same verdict row

module _ (air : List (List ℕ) → Arrival) (us : List ℕ) where
  -- what a slot leaves of a walk that hears
  pub slot_leaves_by : {levels : ℕ} (family : ℕ) (tags : List Tag) (p : Play) → Suits levels us → 64 ≤ length p.list
      → Fixed levels us p.walk (listed p.walk p.list) p.walk.slot → p.walk.slot < 16 → SlotPlayedOf us family tags p (slot_played_by air p)
      → Next levels 64 us p.walk (slot_played_by air p).walk (listed (slot_played_by air p).walk (slot_played_by air p).list)
  slot_leaves_by {levels} family tags p fit places g h played =
      let w : Walk = p.walk in
      let s : Slot = slot_of (called us w) in
      let left : List ℕ = list_after w s (has_place w) w.count p.list in
      subst (λ (y : Walk). Next levels 64 us w y (listed y (slot_played_by air p).list)) (sym played.walk)
      (subst (λ (l : List ℕ). Next levels 64 us w (walk_after w s (has_place w)) (listed (walk_after w s (has_place w)) l)) (sym played.list)
      (slot_next 64 us w (listed w p.list) (listed (walk_after w s (has_place w)) left) (has_place w) fit h g (place_below w) (place_none w)
      (own_lists w p.list s places)))

  pub stage_slot_by : {levels : ℕ} (family : ℕ) (tags : List Tag) (n : ℕ) (p : Play) → AllObey tags → Brings air levels us family tags → Suits levels us
      → Stage levels family tags us n p → Stage levels family tags us (suc n) (slot_played_by air p)
  stage_slot_by {levels} family tags n p obey brings fit (hears places g h e f room count row) =
      let w : Walk = p.walk in
      let q : Play = slot_played_by air p in
      let ls : List ℕ = listed w p.list in
      let level : w.level < 16 = walks_level w ls w.slot fit.most g.walks in
      let played : SlotPlayedOf us family tags p q =
      slot_played_by_lem air us family tags p obey (subst⁻¹ (λ (k : ℕ). Brings air k us family tags) g.walks.marks_length brings) (walks_accepted w ls w.slot h g.walks) level (running_of w e) f places room row in
      let stay : length q.list ≡ length p.list =
      ap length played.list ∙ places_after w (slot_of (called us w)) (has_place w) w.count p.list in
      next_stage family tags us n w q.walk (listed q.walk q.list) q.room q.tags (rw stay places) obey g.walks.steady level h e f
      (rw played.room room) count played.tags (slot_leaves_by family tags p fit places g h played)
  stage_slot_by {levels} family tags n p obey brings fit (rests places a r v row) =
      subst (λ (q : Play). Stage levels family tags us (suc n) q) (sym (ended_played_by air p a r)) (rests places a r v row)

  pub stage_for_by : {levels : ℕ} (family : ℕ) (tags : List Tag) (n m : ℕ) (p : Play) → AllObey tags → Brings air levels us family tags → Suits levels us
      → Stage levels family tags us m p → Stage levels family tags us (m + n) (played_for_by air n p)
  unfolding played_for_by
  stage_for_by {levels} family tags zero m p obey brings fit s = subst (λ (k : ℕ). Stage levels family tags us k p) (omega arith) s
  stage_for_by {levels} family tags (suc n) m p obey brings fit s =
      subst (λ (k : ℕ). Stage levels family tags us k (played_for_by air n (slot_played_by air p))) (omega arith)
      (stage_for_by family tags n (suc m) (slot_played_by air p) obey brings fit (stage_slot_by family tags m p obey brings fit s))

-- ---- 01's air

pub slot_leaves : {levels : ℕ} (family : ℕ) (tags : List Tag) (p : Play) → Suits levels (answering family tags) → 64 ≤ length p.list
    → Fixed levels (answering family tags) p.walk (listed p.walk p.list) p.walk.slot → p.walk.slot < 16 → SlotPlayed family tags p (slot_played p)
    → Next levels 64 (answering family tags) p.walk (slot_played p).walk (listed (slot_played p).walk (slot_played p).list)
slot_leaves family tags p = slot_leaves_by arrives (answering family tags) family tags p

pub stage_slot : {levels : ℕ} (family : ℕ) (tags : List Tag) (n : ℕ) (p : Play) → AllObey tags → Suits levels (answering family tags)
    → Stage levels family tags (answering family tags) n p → Stage levels family tags (answering family tags) (suc n) (slot_played p)
stage_slot {levels} family tags n p obey fit =
    stage_slot_by arrives (answering family tags) family tags n p obey (arrives_brings levels family tags obey fit.starts) fit

pub stage_for : {levels : ℕ} (family : ℕ) (tags : List Tag) (n m : ℕ) (p : Play) → AllObey tags → Suits levels (answering family tags)
    → Stage levels family tags (answering family tags) m p → Stage levels family tags (answering family tags) (m + n) (played_for n p)
stage_for {levels} family tags n m p obey fit =
    stage_for_by arrives (answering family tags) family tags n m p obey (arrives_brings levels family tags obey fit.starts) fit
