-- What the round count counts, slot by slot, and that an ending leaves it and the level: a play hears just what arrives in it, and all hold of any
-- replies.
-- By the law of any replies, and by the tests of hearing. Assumes nothing.
use mathlib.Core.Path.{◌≡◌, refl, sym, ap, ◌∙◌}
use mathlib.Core.Bool.{Bool, true, false, cond, false≢true}
use Prim.Native.Nat.{ℕ, zero, suc, ◌+◌, ◌*◌}
use mathlib.Core.List.{List, [], ◌∷◌}
use borrow.Author.Tests.{eqb-true}
use lib.Dec.{ltb, eqb}
use lib.ListN.{length}
use Rattle.walk.specs.declared.Walk.{Walk}
use Rattle.walk.specs.declared.Slot.{Slot}
use Rattle.walk.specs.declared.Kind.{Kind}
use Rattle.walk.specs.Marks.{deepest}
use Rattle.walk.specs.Record.{levels_of, most_rounds, is_running, remade, ended, at_next_slot, opened_at, opened}
use Rattle.walk.specs.Hear.{judged, has_place, ends_at_once, noted, turned, passed, walk_after, refusal, Hearing, hearing}
use Rattle.walk.specs.Ask.{Asking, asking}
use Rattle.walk.proofs.HearWays.{served_of_refusal}
use Rattle.field.specs.Field.{replies, Arrival, arrives}
use Rattle.field.specs.Played.{Play, slot_played_by, slot_played, played_for_by, played_for, fresh}
use Rattle.field.specs.Replies.{Walked, heard_in, heard_all, AnyReplies}
use Rattle.field.specs.Demand.{RoundsCounted, RoundsKept}
use Rattle.field.proofs.Next.{noted_kept, noted_ending}
use Rattle.field.proofs.AnyWalk.{walk_of_any_replies}

-- ---- a play hears what arrives in it

arrival_at : Play → Arrival
arrival_at p =
    let a : Asking = asking p.walk p.room in
    arrives (replies a.send a.room p.tags)

arrivals : ℕ → Play → List Arrival
arrivals zero p = []
arrivals (suc n) p = arrival_at p ∷ arrivals n (slot_played p)

walked_of : Play → Walked
walked_of p = record { walk = p.walk; list = p.list }

count_arrivals : (n : ℕ) (p : Play) → length (arrivals n p) ≡ n
unfolding arrivals
count_arrivals zero p = refl
count_arrivals (suc n) p = ap suc (count_arrivals n (slot_played p))

played_heard : (n : ℕ) (p : Play) → walked_of (played_for n p) ≡ heard_all (arrivals n p) (walked_of p)
unfolding played_for_by slot_played_by heard_all heard_in arrivals arrival_at walked_of
played_heard zero p = refl
played_heard (suc n) p = played_heard n (slot_played p)

-- ---- while the walk runs

pub rounds_of_a_field : RoundsCounted
unfolding RoundsCounted AnyReplies fresh walked_of
rounds_of_a_field family tags list room obey places fits n running =
    let p : Play = fresh family list room tags in
    let heard = played_heard n p in
    let holds = walk_of_any_replies family list (arrivals n p) places in
    let count = holds.counted (ap (λ (x : Walked). is_running x.walk) (sym heard) ∙ running) in
    ap (λ (x : Walked). 16 * x.walk.rounds + x.walk.slot) heard ∙ count ∙ ap (λ (k : ℕ). 16 + k) (count_arrivals n p)

-- ---- at the end

-- rounds and level stay
Same : Walk → Walk → Type 0
Same w next = (next.rounds ≡ w.rounds) × (next.level ≡ w.level)

-- of what no longer runs
Stays : Walk → Walk → Type 0
Stays w next = is_running next ≡ false → Same w next

stays_either : (w : Walk) (b : Bool) (x y : Walk) → Stays w x → Stays w y → Stays w (cond b x y)
unfolding Stays
stays_either w true x y p q = p
stays_either w false x y p q = q

-- a round that is opened runs
stays_turned : (w x : Walk) (n : ℕ) → is_running x ≡ true → Same w x → Stays w (turned x n)
unfolding Stays Same turned ended opened opened_at remade is_running
stays_turned w x zero runs same = λ e. same
stays_turned w x (suc j) runs same =
    stays_either w (ltb x.rounds (most_rounds (levels_of x))) (opened x j) (ended 4 x) (λ e. absurd (false≢true (sym e ∙ runs))) (λ e. same)

stays_passed : (w x : Walk) → is_running x ≡ true → Same w x → Stays w (passed x)
unfolding Stays Same passed at_next_slot remade
stays_passed w x runs same =
    stays_either w (ltb x.slot 15) (at_next_slot x) (turned x (deepest x.marks)) (λ e. same) (stays_turned w x (deepest x.marks) runs same)

runs_noted : (w : Walk) (slot : Slot) → is_running w ≡ true → is_running (noted w slot) ≡ true
unfolding is_running
runs_noted w slot runs = rw (noted_ending w slot) runs

stays_after : (w : Walk) (slot : Slot) (place : Bool) → is_running w ≡ true → Stays w (walk_after w slot place)
unfolding Stays Same walk_after ended remade
stays_after w slot place runs =
    stays_either w (eqb (ends_at_once w slot place) 0) (passed (noted w slot)) (ended (ends_at_once w slot place) w)
    (stays_passed w (noted w slot) (runs_noted w slot runs) ((noted_kept w slot).rounds, (noted_kept w slot).level)) (λ e. (refl, refl))

heard_either : (w : Walk) (b : Bool) (x y : Hearing) → (b ≡ true → Stays w x.walk) → Stays w y.walk → Stays w (cond b x y).walk
heard_either w true x y p q = p refl
heard_either w false x y p q = q

stays_heard : (w : Walk) (kind : Kind) (bytes list : List ℕ) → Stays w (hearing w kind bytes list).walk
unfolding Stays Same hearing
stays_heard w kind bytes list =
    let n : ℕ = refusal w (length list) in
    heard_either w (eqb n 0) _ _
    (λ e. stays_after w (judged w kind bytes) (has_place w) (served_of_refusal w (length list) (eqb-true n 0 e)).runs) (λ f. (refl, refl))

-- a slot more is played last
pub played_last : (n : ℕ) (p : Play) → played_for (suc n) p ≡ slot_played (played_for n p)
unfolding played_for_by
played_last zero p = refl
played_last (suc n) p = played_last n (slot_played p)

slot_stays : (p : Play) → Stays p.walk (slot_played p).walk
unfolding slot_played_by arrival_at
slot_stays p = stays_heard p.walk (arrival_at p).kind (arrival_at p).bytes p.list

pub rounds_after_a_field : RoundsKept
unfolding RoundsKept Stays Same
rounds_after_a_field family tags list room obey places fits n end =
    let p : Play = played_for n (fresh family list room tags) in
    let last = played_last n (fresh family list room tags) in
    ap (λ (q : Play). q.walk.rounds) last ∙ (slot_stays p (ap (λ (q : Play). is_running q.walk) (sym last) ∙ end)).0

-- nor does it change the level
pub ended_level : (p : Play) → is_running (slot_played p).walk ≡ false → (slot_played p).walk.level ≡ p.walk.level
unfolding Stays Same
ended_level p end = (slot_stays p end).1
