-- Each sign of the picture says what the walk makes of its slot, and how many of the UIDs the slot calls. By the slot of a field that the bench's is.
-- Assumes nothing.
use mathlib.Core.Path.{◌≡◌, sym, ap, subst, subst⁻¹, ◌∙◌}
use mathlib.Core.Bool.{true}
use Prim.Native.Nat.{ℕ, ◌+◌, ◌<◌}
use native.Mathlib.Omega.{arith}
use mathlib.Core.List.{List}
use lib.Dec.{T}
use lib.ListN.{length}
use Rattle.walk.specs.declared.Walk.{Walk}
use Rattle.walk.specs.Marks.{levels}
use Rattle.walk.specs.Record.{whole_mask, is_accepted, is_running}
use Rattle.walk.proofs.Limits.{Accepted, accepted_of_is_accepted}
use Rattle.play.specs.Life.{Tag}
use Rattle.field.specs.Field.{answering}
use Rattle.field.specs.Played.{Play}
use Rattle.field.specs.Played as field
use Rattle.field.specs.Found.{BeginE0, listed}
use Rattle.field.specs.Demand.{AllObey, cards}
use Rattle.field.proofs.Called.{called, Starts}
use Rattle.field.proofs.InTime.{Both, Before}
use Rattle.field.proofs.Callers.{called_callers}
use Rattle.field.proofs.Accepted.{walks_accepted, walks_level}
use Rattle.field.proofs.Next.{Suits}
use Rattle.field.proofs.Stages.{Stage, hears, rests, running_of, stage_fresh, stage_for}
use Rattle.row.specs.Row.{Played, no_bytes, still_air, row_air}
use Rattle.row.specs.Play.{no_uids}
use Rattle.picture.specs.Drawn.{sign}
use Rattle.meaning.specs.Signs.{sign_of, sign_for, air_at, called_at, Signs, SignsAlways}
use Rattle.meaning.proofs.RowTurned.{Turned, row_turned, row_judged}
use Rattle.meaning.proofs.SlotsAlike.{bench_of, starts_own}
use Rattle.meaning.proofs.Bench.{tags_of, tags_obey, tags_answer, tags_suit, fresh_field, bench_is_a_field}
use Rattle.meaning.proofs.Answers.{sign_callers, sign_slot}

-- ---- a slot of a field that is heard

pub sign_called : (w : Walk) (tags ts : List Tag) → is_accepted w ≡ true → Both (Turned w) tags ts
    → sign (row_air w still_air (cards ts)) ≡ sign_for (length (called (answering w.family tags) w))
sign_called w tags ts accepted turned =
    let facts : Accepted w = accepted_of_is_accepted w accepted in
    sign_callers w tags ts turned ∙ ap (λ (us : List ℕ). sign_for (length us)) (sym (called_callers w.family w tags facts.mask (omega (arith, facts.slot))))

slot_signs : (tags : List Tag) (p : Play) → AllObey tags → Starts (length p.walk.marks) (answering p.walk.family tags)
    → is_accepted p.walk ≡ true → p.walk.level < 16 → is_running p.walk ≡ true
    → Before p.walk.family p.walk.level (whole_mask p.walk) p.walk.slot tags p.tags → Signs (answering p.walk.family tags) (bench_of p)
unfolding bench_of air_at called_at called
slot_signs tags p obey starts accepted level running before =
    let w : Walk = p.walk in
    let turned : Both (Turned w) tags p.tags = row_turned w tags p.tags obey accepted level running before in
    let us : List ℕ = called (answering w.family tags) w in
    let counts : sign (row_air w still_air (cards p.tags)) ≡ sign_for (length us) = sign_called w tags p.tags accepted turned in
    record { walk = counts ∙ sym (sign_slot us) ∙ ap sign_of (sym (row_judged w tags p.tags obey starts accepted turned)); uids = counts }

-- ---- after any number of slots

stage_signs : (tags : List Tag) (us : List ℕ) (n : ℕ) (p : Play) → AllObey tags → Suits levels (answering 256 tags)
    → Stage levels 256 tags us n p → is_running p.walk ≡ true → Signs (answering 256 tags) (bench_of p)
stage_signs tags us n p obey fit (hears places g h e f room count row) running =
    let w : Walk = p.walk in
    let ls : List ℕ = listed w p.list in
    subst (λ (x : ℕ). Signs (answering x tags) (bench_of p)) f
    (slot_signs tags p obey (starts_own w tags f g.walks.marks_length fit) (walks_accepted w ls w.slot h g.walks)
    (walks_level w ls w.slot fit.most g.walks) (running_of w e)
    (subst⁻¹ (λ (x : ℕ). Before x w.level (whole_mask w) w.slot tags p.tags) f row))
stage_signs tags us n p obey fit (rests places a r v row) running = absurd (subst T (sym running ∙ r) tt)

field_stage : (us : List ℕ) → BeginE0 us → (n : ℕ)
    → Stage levels 256 (tags_of us) (answering 256 (tags_of us)) (0 + n) (field.played_for n (fresh_field us))
unfolding fresh_field no_uids no_bytes
field_stage us begin n =
    let tags : List Tag = tags_of us in
    let obey : AllObey tags = tags_obey us begin in
    stage_for 256 tags n 0 (fresh_field us) obey (tags_suit us begin)
    (stage_fresh 256 tags (answering 256 tags) no_uids no_bytes obey (omega arith) (omega arith))

field_signs : (us : List ℕ) → BeginE0 us → (n : ℕ) → is_running (bench_of (field.played_for n (fresh_field us))).desk.walk ≡ true
    → Signs us (bench_of (field.played_for n (fresh_field us)))
unfolding bench_of
field_signs us begin n running =
    subst (λ (vs : List ℕ). Signs vs (bench_of (field.played_for n (fresh_field us)))) (tags_answer us)
    (stage_signs (tags_of us) (answering 256 (tags_of us)) (0 + n) (field.played_for n (fresh_field us)) (tags_obey us begin) (tags_suit us begin)
    (field_stage us begin n) running)

pub every_sign : SignsAlways
unfolding SignsAlways
every_sign us begin n =
    subst (λ (p : Played). is_running p.desk.walk ≡ true → Signs us p) (sym (bench_is_a_field us begin n)) (field_signs us begin n)
