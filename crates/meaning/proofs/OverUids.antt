-- What is drawn, worked out over the UIDs alone: no card, no frame, no check. By the stages of the walk over a field.
-- Assumes nothing.
use mathlib.Core.Path.{◌≡◌, refl, ap, subst⁻¹, ◌∙◌}
use mathlib.Core.Bool.{true, cond, not, ◌||◌}
use Prim.Native.Nat.{ℕ, zero, suc, ◌<◌}
use native.Mathlib.Omega.{arith}
use mathlib.Core.List.{List, [], ◌∷◌, ◌++◌}
use lib.Dec.{eqb}
use lib.ListN.{length}
use Rattle.walk.specs.declared.Walk.{Walk}
use Rattle.walk.specs.Marks.{levels}
use Rattle.walk.specs.Record.{whole_mask, is_accepted, is_running, started}
use Rattle.play.specs.Life.{Tag}
use Rattle.field.specs.Field.{answering}
use Rattle.field.specs.Played.{Play, fresh}
use Rattle.field.specs.Played as field
use Rattle.field.specs.Found.{BeginE0, listed}
use Rattle.field.specs.Demand.{AllObey, cards}
use Rattle.field.proofs.Called.{called}
use Rattle.field.proofs.InTime.{Both, Before}
use Rattle.field.proofs.Accepted.{walks_accepted, walks_level}
use Rattle.field.proofs.Next.{Suits}
use Rattle.field.proofs.Stages.{Stage, hears, rests, running_of, stage_fresh, stage_slot}
use Rattle.field.proofs.Stood.{Stand, stood, stood_for, stand_of, played_stood}
use Rattle.row.specs.Row.{Played, no_bytes, still_air, row_air, slot_played, played_for, cards_of}
use Rattle.row.specs.Play.{no_uids, fresh_desk}
use Rattle.picture.specs.Drawn.{sign, line_head, slot_drawn, drawn_for}
use Rattle.meaning.specs.Signs.{sign_for}
use Rattle.meaning.proofs.RowTurned.{Turned, row_turned}
use Rattle.meaning.proofs.SlotsAlike.{bench_of, played_alike}
use Rattle.meaning.proofs.Bench.{tags_of, tags_obey, tags_answer, tags_suit, fresh_field, bench_is_a_field}
use Rattle.meaning.proofs.Signs.{sign_called}

-- what a slot with a sign adds
unfoldable pub signed : Walk → ℕ → Walk → List ℕ
signed w a next = cond (eqb w.slot 0) (line_head w) [] ++ a ∷ cond (eqb w.slot 15 || not (is_running next)) (0x0a ∷ []) []

-- the slots that a walk still hears over the UIDs us, of n at the most
unfoldable pub over_uids : List ℕ → ℕ → Stand → List ℕ
over_uids us zero s = []
over_uids us (suc n) s =
    cond (is_running s.walk)
    (signed s.walk (sign_for (length (called us s.walk))) (stood us s).walk ++ over_uids us n (stood us s))
    []

-- ---- one slot

hears_signed : (family : ℕ) (tags : List Tag) (p : Play) → AllObey tags → is_accepted p.walk ≡ true → p.walk.level < 16
    → is_running p.walk ≡ true → p.walk.family ≡ family → Before family p.walk.level (whole_mask p.walk) p.walk.slot tags p.tags
    → sign (row_air p.walk still_air (cards p.tags)) ≡ sign_for (length (called (answering family tags) p.walk))
hears_signed family tags p obey accepted level running f before =
    let w : Walk = p.walk in
    let turned : Both (Turned w) tags p.tags =
    row_turned w tags p.tags obey accepted level running (subst⁻¹ (λ (x : ℕ). Before x w.level (whole_mask w) w.slot tags p.tags) f before) in
    sign_called w tags p.tags accepted turned ∙ ap (λ (x : ℕ). sign_for (length (called (answering x tags) w))) f

-- the bench's slot and the UIDs' are a field's
module _ (family : ℕ) (tags : List Tag) (obey : AllObey tags) (fit : Suits levels (answering family tags)) where
  abbrev us : List ℕ
  us = answering family tags

  slot_alike : (m : ℕ) (p : Play) → Stage levels family tags us m p → slot_played (bench_of p) ≡ bench_of (field.slot_played p)
  unfolding played_for field.played_for_by
  slot_alike m p s = played_alike family tags 1 m p obey fit s

  slot_stands : (m : ℕ) (p : Play) → Stage levels family tags us m p → stand_of (field.slot_played p) ≡ stood us (stand_of p)
  unfolding field.played_for_by stood_for
  slot_stands m p s = played_stood family tags 1 m p obey fit s

  more_drawn : (n m : ℕ) (p : Play) → Stage levels family tags us m p
      → drawn_for n (bench_of (field.slot_played p)) ≡ over_uids us n (stand_of (field.slot_played p))
      → drawn_for (suc n) (bench_of p) ≡ over_uids us (suc n) (stand_of p)
  unfolding drawn_for over_uids signed slot_drawn bench_of
  more_drawn n m p (hears places g h e f room count row) later =
      let w : Walk = p.walk in
      let ls : List ℕ = listed w p.list in
      let s : Stage levels family tags us m p = hears places g h e f room count row in
      let running : is_running w ≡ true = running_of w e in
      let is : sign (row_air w still_air (cards p.tags)) ≡ sign_for (length (called us w)) =
      hears_signed family tags p obey (walks_accepted w ls w.slot h g.walks) (walks_level w ls w.slot fit.most g.walks) running f row in
      rw running (
      ap (λ (q : Played). signed w (sign (row_air w still_air (cards p.tags))) q.desk.walk ++ drawn_for n q) (slot_alike m p s)
      ∙ ap (λ (l : List ℕ). signed w (sign (row_air w still_air (cards p.tags))) (field.slot_played p).walk ++ l) later
      ∙ (λ i. signed w (is i) (slot_stands m p s i).walk ++ over_uids us n (slot_stands m p s i))
      )
  more_drawn n m p (rests places a r v row) later = rw r

  pub drawn_over : (n m : ℕ) (p : Play) → Stage levels family tags us m p → drawn_for n (bench_of p) ≡ over_uids us n (stand_of p)
  unfolding drawn_for over_uids
  drawn_over zero m p s = refl
  drawn_over (suc n) m p s =
      more_drawn n m p s (drawn_over n (suc m) (field.slot_played p) (stage_slot family tags m p obey fit s))

-- ---- for the bench's cards

bench_start : (us : List ℕ) → BeginE0 us → record { desk = fresh_desk; row = cards_of us } ≡ bench_of (fresh_field us)
unfolding played_for field.played_for_by
bench_start us begin = bench_is_a_field us begin 0

pub bench_drawn : (us : List ℕ) → BeginE0 us → (n : ℕ)
    → drawn_for n (record { desk = fresh_desk; row = cards_of us }) ≡ over_uids us n (record { walk = started 256; list = no_uids })
unfolding fresh_field fresh no_uids no_bytes
bench_drawn us begin n =
    let tags : List Tag = tags_of us in
    let obey : AllObey tags = tags_obey us begin in
    ap (drawn_for n) (bench_start us begin)
    ∙ drawn_over 256 tags obey (tags_suit us begin) n 0 (fresh_field us)
    (stage_fresh 256 tags (answering 256 tags) no_uids no_bytes obey (omega arith) (omega arith))
    ∙ ap (λ (vs : List ℕ). over_uids vs n (record { walk = started 256; list = no_uids })) (tags_answer us)
