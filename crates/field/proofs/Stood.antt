-- A walk over cards is the walk over the UIDs of those that answer: slot by slot, the list and the record, so that a field can be worked out.
-- By the stages of the walk. Assumes nothing.
use mathlib.Core.Path.{◌≡◌, refl, ap, subst⁻¹, ◌∙◌}
use mathlib.Core.Bool.{false, cond}
use Prim.Native.Nat.{ℕ, zero, suc, ◌+◌}
use native.Mathlib.Nat.{zero-add, suc-add}
use mathlib.Core.List.{List}
use Rattle.walk.specs.declared.Walk.{Walk}
use Rattle.walk.specs.Record.{is_running}
use Rattle.walk.specs.Hear.{has_place, walk_after, list_after}
use Rattle.play.specs.Life.{Tag}
use Rattle.field.specs.Field.{answering}
use Rattle.field.specs.Played.{Play, slot_played, played_for_by, played_for}
use Rattle.field.specs.Found.{listed}
use Rattle.field.specs.Demand.{AllObey}
use Rattle.field.proofs.Called.{called, slot_of, Starts}
use Rattle.field.proofs.Accepted.{walks_accepted, walks_level}
use Rattle.field.proofs.Next.{Suits}
use Rattle.field.proofs.PlayedSlot.{SlotPlayed, slot_played_lem, ended_played}
use Rattle.field.proofs.Stages.{Stage, hears, rests, running_of, stage_slot}

-- a walk with its list
pub record Stand : Type 0 where
  pub walk : Walk
  pub list : List ℕ

-- the slot that the UIDs us bring; an ended walk stays
unfoldable pub stood : List ℕ → Stand → Stand
stood us s =
    cond (is_running s.walk)
    (record {
      walk = walk_after s.walk (slot_of (called us s.walk)) (has_place s.walk);
      list = list_after s.walk (slot_of (called us s.walk)) (has_place s.walk) s.walk.count s.list;
    })
    s

unfoldable pub stood_for : List ℕ → ℕ → Stand → Stand
stood_for us zero s = s
stood_for us (suc n) s = stood_for us n (stood us s)

pub stood_more : (us : List ℕ) (n m : ℕ) (s : Stand) → stood_for us (n + m) s ≡ stood_for us m (stood_for us n s)
unfolding stood_for
stood_more us zero m s = ap (λ (k : ℕ). stood_for us k s) (zero-add m)
stood_more us (suc n) m s = ap (λ (k : ℕ). stood_for us k s) (suc-add n m) ∙ stood_more us n m (stood us s)

pub stood_ended : (us : List ℕ) (n : ℕ) (s : Stand) → is_running s.walk ≡ false → stood_for us n s ≡ s
unfolding stood_for stood
stood_ended us zero s e = refl
stood_ended us (suc n) s e = rw e (stood_ended us n s e)

abbrev pub stand_of : Play → Stand
stand_of p = record { walk = p.walk; list = p.list }

slot_stood : {levels : ℕ} (family : ℕ) (tags : List Tag) (n : ℕ) (p : Play) → AllObey tags → Suits levels (answering family tags)
    → Stage levels family tags (answering family tags) n p
    → stand_of (slot_played p) ≡ stood (answering family tags) (stand_of p)
unfolding stood
slot_stood {levels} family tags n p obey fit (hears places g h e f room count row) =
    let w : Walk = p.walk in
    let ls : List ℕ = listed w p.list in
    let played : SlotPlayed family tags p (slot_played p) =
    slot_played_lem family tags p obey (subst⁻¹ (λ (k : ℕ). Starts k (answering family tags)) g.walks.marks_length fit.starts)
    (walks_accepted w ls w.slot h g.walks) (walks_level w ls w.slot fit.most g.walks) (running_of w e) f places room row in
    rw (running_of w e) (λ i. record { walk = played.walk i; list = played.list i })
slot_stood family tags n p obey fit (rests places a r v row) = rw (r, ended_played p a r)

pub played_stood : {levels : ℕ} (family : ℕ) (tags : List Tag) (n m : ℕ) (p : Play) → AllObey tags → Suits levels (answering family tags)
    → Stage levels family tags (answering family tags) m p → stand_of (played_for n p) ≡ stood_for (answering family tags) n (stand_of p)
unfolding played_for_by stood_for
played_stood family tags zero m p obey fit s = refl
played_stood family tags (suc n) m p obey fit s =
    played_stood family tags n (suc m) (slot_played p) obey fit (stage_slot family tags m p obey fit s)
    ∙ ap (stood_for (answering family tags) n) (slot_stood family tags m p obey fit s)
