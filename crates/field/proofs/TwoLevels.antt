-- Sixteen levels and fourteen, over cards whose UIDs begin with E0: a walk of sixteen that ends complete never needs the last two, and both find the
-- same. Each mask that is opened is a tail that two UIDs share, and different ones share none of fourteen digits. By the stages of the walk, and demand 3
-- used twice. Assumes nothing.
use mathlib.Core.Path.{◌≡◌, sym, ap, ◌∙◌}
use mathlib.Core.Bool.{false, false≢true}
use Prim.Native.Nat.{ℕ, zero, suc, ◌+◌, ◌*◌, ◌≤◌}
use native.Mathlib.Decide.{ℕ_discrete, dec_le}
use native.Mathlib.Omega.{arith}
use mathlib.Core.List.{List}
use borrow.Author.Tests.{eqb-false}
use lib.ListN.{length}
use Rattle.tails.proofs.Apart.{ToldApart, told_apart_more, apart_unshared, shared_tails_apart}
use Rattle.walk.specs.declared.Walk.{Walk}
use Rattle.walk.specs.Marks.{levels}
use Rattle.walk.specs.Record.{most_rounds, most_slots, whole_mask, complete, twins, full, is_running, started_of}
use Rattle.play.specs.Life.{Tag}
use Rattle.field.specs.Field.{answering}
use Rattle.field.specs.Played.{Play, slot_played, played_for_by, played_for, fresh_of, fresh}
use Rattle.field.specs.Found.{Different, BeginE0, listed, FoundIn}
use Rattle.field.specs.Demand.{AllObey, Demand3Always}
use Rattle.field.specs.TwoLevels.{LowBitsTell, SixteenLevels, TwoLevelsTooMany, SameFound, NothingLost}
use Rattle.field.proofs.FixedField.{Fixed}
use Rattle.field.proofs.Next.{suits_apart}
use Rattle.field.proofs.Suited.{e0_suit, whole_suit}
use Rattle.field.proofs.Stages.{Stage, hears, rests}
use Rattle.field.proofs.Demand3.{verdict_found, stage_after, walk_of_a_field_in, walk_of_a_field}
use Rattle.field.proofs.Rounds.{played_last, ended_level}

-- "Two different such UIDs differ within their low 56 bits"
pub low_bits_tell : LowBitsTell
unfolding LowBitsTell
low_bits_tell u v a b e = omega (arith, a, b, e)

pub walk_of_sixteen_levels : SixteenLevels
unfolding SixteenLevels most_slots most_rounds
walk_of_sixteen_levels family tags list room obey places fits =
    walk_of_a_field_in 16 family tags list room (omega arith) (whole_suit family tags obey) obey places fits

-- ---- two levels too many

-- fourteen digits tell them apart
e0_apart : (us : List ℕ) → BeginE0 us → ToldApart 14 us
unfolding levels
e0_apart us begin = suits_apart (e0_suit us begin)

-- no mask of fourteen digits is opened
level_most : {levels : ℕ} (us : List ℕ) (w : Walk) (ls : List ℕ) (t : ℕ) → BeginE0 us → Different us → Fixed levels us w ls t → w.level ≤ 13
unfolding Different
level_most us w ls t begin different g = go (dec_le w.level 13)
  where
    go : Dec (w.level ≤ 13) → w.level ≤ 13
    go (yes h) = h
    go (no h) =
        let apart : ToldApart w.level us = told_apart_more us 14 w.level (omega arith) (e0_apart us begin) in
        absurd (false≢true (sym (apart_unshared us w.level (whole_mask w) apart different) ∙ g.own (omega arith)))

-- a walk that has ended complete over some UIDs tells that they are different
complete_different : (levels family : ℕ) (tags : List Tag) (us : List ℕ) (n : ℕ) (p : Play) → Stage levels family tags us n p → p.walk.ending ≡ complete
    → Different us
complete_different levels family tags us n p (hears places g h e f room count row) end = absurd (omega (arith, e, end))
complete_different levels family tags us n p (rests places a r v row) end = (verdict_found levels us p.walk p.list r v).different end

module _ (family : ℕ) (tags : List Tag) (list room : List ℕ) (obey : AllObey tags) (begin : BeginE0 (answering family tags))
    (places : 64 ≤ length list) (fits : 14 ≤ length room) where
  abbrev us : List ℕ
  us = answering family tags

  abbrev start : Play
  start = fresh_of 16 family list room tags

  stage : (n : ℕ) → Stage 16 family tags us n (played_for n start)
  stage n = stage_after 16 family tags list room (omega arith) (whole_suit family tags obey) obey places fits n

  -- a walk that hears has opened none; one that has ended is where it heard last
  level_of : Different us → (n : ℕ) (p : Play) → Stage 16 family tags us n p → (is_running p.walk ≡ false → p.walk.level ≤ 13) → p.walk.level ≤ 13
  level_of different n p (hears h g s e f r c b) rest = level_most us p.walk (listed p.walk p.list) p.walk.slot begin different g
  level_of different n p (rests h a e v b) rest = rest e

  level_after : Different us → (n : ℕ) → (played_for n start).walk.level ≤ 13
  unfolding played_for_by fresh_of started_of
  level_after different zero = omega arith
  level_after different (suc n) =
      let p : Play = played_for n start in
      let last = played_last n start in
      level_of different (suc n) (played_for (suc n) start) (stage (suc n))
      (λ e.
      let same : (slot_played p).walk.level ≡ p.walk.level = ended_level p (ap (λ (q : Play). is_running q.walk) (sym last) ∙ e) in
      omega (arith, ap (λ (q : Play). q.walk.level) last, same, level_after different n))

  too_many : (m : ℕ) → (played_for m start).walk.ending ≡ complete → (n : ℕ) → (played_for n start).walk.level ≤ 13
  too_many m end n = level_after (complete_different 16 family tags us m (played_for m start) (stage m) end) n

pub two_levels_too_many : TwoLevelsTooMany
unfolding TwoLevelsTooMany
two_levels_too_many family tags list room obey begin places fits m end n = too_many family tags list room obey begin places fits m end n

-- ---- nothing is lost

-- an ending is complete, twins or full; full only where more than 64 answer
few_ending : {digits : ℕ} {us : List ℕ} {w : Walk} {list : List ℕ} → FoundIn digits us w list → length us ≤ 64 → (w.ending ≡ complete → ⊥) → w.ending ≡ twins
unfolding is_running
few_ending {digits} {us} {w} {list} found few other = go (ℕ_discrete w.ending full)
  where
    go : Dec (w.ending ≡ full) → w.ending ≡ twins
    go (yes e) = absurd (omega (arith, found.full_many e, few))
    go (no e) = omega (arith, found.no_overrun, eqb-false w.ending 0 found.ends, other, e)

same_found : (us : List ℕ) (p q : Play) → BeginE0 us → FoundIn 13 us p.walk p.list → FoundIn 15 us q.walk q.list → SameFound us p q
unfolding Different
same_found us p q begin f s =
    record {
      completes = λ e. f.completes (s.few e) (s.different e);
      completed = completed;
      lists = λ e u. f.each_once e u ∙ sym (s.each_once (completed e) u);
      count = λ e. f.count e ∙ sym (s.count (completed e));
      rounds = λ e. f.rounds e ∙ ap (λ (n : ℕ). 1 + n) (sym (shared_tails_apart us 13 2 (e0_apart us begin) (f.different e))) ∙ sym (s.rounds (completed e));
      endings = λ few. go few (ℕ_discrete p.walk.ending complete);
    }
  where
    completed : p.walk.ending ≡ complete → q.walk.ending ≡ complete
    completed e = s.completes (f.few e) (f.different e)

    go : length us ≤ 64 → Dec (p.walk.ending ≡ complete) → p.walk.ending ≡ q.walk.ending
    go few (yes e) = e ∙ sym (completed e)
    go few (no e) = few_ending f few e ∙ sym (few_ending s few (λ c. e (f.completes (s.few c) (s.different c))))

pub nothing_lost : NothingLost
unfolding NothingLost Demand3Always SixteenLevels
nothing_lost family tags list room list' room' obey begin places fits places' fits' =
    same_found (answering family tags) (played_for (16 * 417) (fresh family list room tags)) (played_for (16 * 481) (fresh_of 16 family list' room' tags)) begin
    (walk_of_a_field family tags list room obey begin places fits).found (walk_of_sixteen_levels family tags list' room' obey places' fits').found
