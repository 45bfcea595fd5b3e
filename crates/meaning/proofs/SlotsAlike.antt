-- A slot of the bench is a slot of a field: the same walk, the same list and the same cards, whether the walk hears or has ended.
-- By the slot that the UIDs bring to both. Assumes nothing.
use mathlib.Core.Path.{◌≡◌, refl, sym, ap, ap₂, subst⁻¹, ◌∙◌}
use mathlib.Core.Bool.{true, false}
use Prim.Native.Nat.{ℕ, zero, suc, ◌≤◌, ◌<◌}
use mathlib.Core.List.{List, [], ◌∷◌}
use lib.ListN.{length}
use Rattle.card.specs.declared.Card.{Card}
use Rattle.card.specs.declared.Turn.{Turn}
use Rattle.card.specs.Inventory.{still}
use Rattle.walk.specs.declared.Walk.{Walk}
use Rattle.walk.specs.declared.Slot.{Slot}
use Rattle.walk.specs.Marks.{levels}
use Rattle.walk.specs.Record.{whole_mask, is_accepted, is_running}
use Rattle.walk.specs.Hear.{judged, has_place, walk_after, list_after}
use Rattle.walk.specs.Ask.{Asking}
use Rattle.walk.proofs.HearWays.{walk_heard, ended_heard}
use Rattle.play.specs.Life.{Tag}
use Rattle.field.specs.Field.{answering}
use Rattle.field.specs.Played.{Play}
use Rattle.field.specs.Played as field
use Rattle.field.specs.Found.{listed}
use Rattle.field.specs.Demand.{AllObey, cards}
use Rattle.field.proofs.Called.{called, slot_of, Starts}
use Rattle.field.proofs.InTime.{Both, Before}
use Rattle.field.proofs.WalkServed.{ended_asked}
use Rattle.field.proofs.PlayedSlot.{SlotPlayed, slot_played_lem, ended_played}
use Rattle.field.proofs.Accepted.{walks_accepted, walks_level}
use Rattle.field.proofs.Next.{Suits}
use Rattle.field.proofs.Stages.{Stage, hears, rests, running_of, stage_slot}
use Rattle.field.proofs.Demand3.{cards_of_lem}
use Rattle.row.specs.declared.Air.{Air}
use Rattle.row.specs.declared.Desk.{Desk}
use Rattle.row.specs.Row.{Played, no_bytes, sent_of, heard_by, turn_by, turn_of, still_air, air_kind, air_bytes, row_air, row_after, desk_after, slot_played, played_for}
use Rattle.meaning.proofs.RowTurned.{Turned, row_turned, row_left, row_judged}

abbrev desk_of : Walk → List ℕ → Desk
desk_of w list = record { walk = w; list = list }

abbrev played_of : Desk → List Card → Played
played_of desk row = record { desk = desk; row = row }

-- what the bench keeps of a field's play
unfoldable pub bench_of : Play → Played
bench_of p = played_of (desk_of p.walk p.list) (cards p.tags)

-- ---- a walk that hears

desk_heard : (w : Walk) (list : List ℕ) (air : Air) (slot : Slot) → is_accepted w ≡ true → is_running w ≡ true → 64 ≤ length list
    → judged w (air_kind air) (air_bytes air) ≡ slot
    → desk_after (desk_of w list) air ≡ desk_of (walk_after w slot (has_place w)) (list_after w slot (has_place w) w.count list)
unfolding desk_after
desk_heard w list air slot accepted running places heard = rw (walk_heard w (air_kind air) (air_bytes air) list accepted running places, heard)

hears_alike : (tags : List Tag) (p : Play) → AllObey tags → Starts (length p.walk.marks) (answering p.walk.family tags)
    → is_accepted p.walk ≡ true → p.walk.level < 16 → is_running p.walk ≡ true → 64 ≤ length p.list → 14 ≤ length p.room
    → Before p.walk.family p.walk.level (whole_mask p.walk) p.walk.slot tags p.tags
    → slot_played (bench_of p) ≡ bench_of (field.slot_played p)
unfolding slot_played bench_of
hears_alike tags p obey starts accepted level running places room before =
    let w : Walk = p.walk in
    let q : Play = field.slot_played p in
    let slot : Slot = slot_of (called (answering w.family tags) w) in
    let played : SlotPlayed w.family tags p q = slot_played_lem w.family tags p obey starts accepted level running refl places room before in
    let turned : Both (Turned w) tags p.tags = row_turned w tags p.tags obey accepted level running before in
    ap₂ played_of
    (desk_heard w p.list (row_air w still_air (cards p.tags)) slot accepted running places (row_judged w tags p.tags obey starts accepted turned)
    ∙ ap₂ desk_of (sym played.walk) (sym played.list))
    (row_left w tags p.tags turned ∙ sym (cards_of_lem w.family w tags q.tags played.tags))

-- ---- an ended walk

ended_turned : (w : Walk) (c : Card) → is_accepted w ≡ true → is_running w ≡ false → turn_of w c ≡ still c
unfolding turn_of turn_by sent_of heard_by
ended_turned w c accepted ended = ap (λ (a : Asking). heard_by a.send a.room c) (ended_asked w no_bytes accepted ended)

ended_row : (w : Walk) (cs : List Card) → is_accepted w ≡ true → is_running w ≡ false → row_after w cs ≡ cs
unfolding row_after
ended_row w [] accepted ended = refl
ended_row w (c ∷ cs) accepted ended =
    ap₂ (λ (d : Card) (ds : List Card). d ∷ ds) (ap (λ (u : Turn). u.card) (ended_turned w c accepted ended)) (ended_row w cs accepted ended)

ended_desk : (w : Walk) (list : List ℕ) (air : Air) → is_accepted w ≡ true → is_running w ≡ false → desk_after (desk_of w list) air ≡ desk_of w list
unfolding desk_after
ended_desk w list air accepted ended = rw (ended_heard w (air_kind air) (air_bytes air) list accepted ended)

rests_alike : (p : Play) → is_accepted p.walk ≡ true → is_running p.walk ≡ false → slot_played (bench_of p) ≡ bench_of p
unfolding slot_played bench_of
rests_alike p accepted ended =
    ap₂ played_of (ended_desk p.walk p.list (row_air p.walk still_air (cards p.tags)) accepted ended)
    (ended_row p.walk (cards p.tags) accepted ended)

-- ---- slot after slot

-- the UIDs suit the walk's own levels, for its own family
pub starts_own : {levels family : ℕ} (w : Walk) (tags : List Tag) → w.family ≡ family → length w.marks ≡ levels → Suits levels (answering family tags)
    → Starts (length w.marks) (answering w.family tags)
starts_own w tags f long fit = rw (f, long) fit.starts

slots_alike : (family : ℕ) (tags : List Tag) (us : List ℕ) (n : ℕ) (p : Play) → AllObey tags → Suits levels (answering family tags)
    → Stage levels family tags us n p → slot_played (bench_of p) ≡ bench_of (field.slot_played p)
slots_alike family tags us n p obey fit (hears places g h e f room count row) =
    let w : Walk = p.walk in
    let ls : List ℕ = listed w p.list in
    hears_alike tags p obey (starts_own w tags f g.walks.marks_length fit) (walks_accepted w ls w.slot h g.walks)
    (walks_level w ls w.slot fit.most g.walks) (running_of w e) places room
    (subst⁻¹ (λ (x : ℕ). Before x w.level (whole_mask w) w.slot tags p.tags) f row)
slots_alike family tags us n p obey fit (rests places a r v row) = rests_alike p a r ∙ sym (ap bench_of (ended_played p a r))

pub played_alike : (family : ℕ) (tags : List Tag) (n m : ℕ) (p : Play) → AllObey tags → Suits levels (answering family tags)
    → Stage levels family tags (answering family tags) m p → played_for n (bench_of p) ≡ bench_of (field.played_for n p)
unfolding played_for field.played_for_by
played_alike family tags zero m p obey fit s = refl
played_alike family tags (suc n) m p obey fit s =
    ap (played_for n) (slots_alike family tags (answering family tags) m p obey fit s)
    ∙ played_alike family tags n (suc m) (field.slot_played p) obey fit (stage_slot family tags m p obey fit s)
