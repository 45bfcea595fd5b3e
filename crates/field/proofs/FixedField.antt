-- A walk of a fixed field: what is listed and what is ahead is the field, and each round opened is a shared tail.
-- By the weights of UIDs and of tails, which every slot keeps. Assumes nothing.
use mathlib.Core.Path.{◌≡◌, refl, ap, subst⁻¹, ◌∙◌}
use mathlib.Core.Bool.{Bool, true}
use Prim.Native.Nat.{ℕ, suc, ◌+◌, ◌-◌, ◌≤◌, ◌<◌}
use native.Mathlib.Numerals.{add-one}
use native.Mathlib.Omega.{arith}
use mathlib.Core.List.{List, [], ◌∷◌}
use borrow.Author.Tests.{le-leb}
use lib.ListN.{length}
use Rattle.tails.specs.Sum.{one, tally}
use Rattle.tails.specs.Tails.{is_shared, shared_tails_to}
use Rattle.tails.proofs.Apart.{ending_head}
use Rattle.walk.specs.declared.Walk.{Walk}
use Rattle.walk.specs.declared.Slot.TheVariants.{Silent, Clashed, Clean}
use Rattle.walk.specs.Marks.{deepest}
use Rattle.walk.specs.Record.{whole_mask, most_rounds, remade, started_of, counted, marked, at_next_slot, opened_at, opened}
use Rattle.walk.specs.Hear.{ends_at_once, noted}
use Rattle.field.proofs.Levels.{opened_mask_below}
use Rattle.field.proofs.Steady.{Steady}
use Rattle.field.proofs.WaitSums.{slot_tail}
use Rattle.field.proofs.Ahead.{ahead, ahead_start, ahead_hear, ahead_counted, ahead_next, ahead_marked, ahead_opened}
use Rattle.field.proofs.Weights.{weigh, weigh_parts, weigh_start, below_at, below_parts, below_start}
use Rattle.field.proofs.Shared.{Crowded, start_crowded, marked_crowded, opened_shared, opened_crowded}
use Rattle.field.proofs.AnyReplies.{Walks, Fits, added, Lists, clean_added, start_walks, ending_walks, note_walks, next_walks, open_walks}
use Rattle.field.proofs.Called.{called, slot_of}
use Rattle.field.proofs.CalledWeights.{slot_weight, slot_shared, slot_alone}

-- a walk of so many levels, us the UIDs of the field and ls those listed, about to hear slot t
pub record Fixed (levels : ℕ) (us : List ℕ) (w : Walk) (ls : List ℕ) (t : ℕ) : Type 0 where
  pub walks : Walks levels w ls t
  pub weighed : (v : ℕ → ℕ) → tally v ls + ahead (weigh v us) w t ≡ tally v us
  pub tails : w.rounds + ahead (below_at levels us) w t ≡ 1 + shared_tails_to (levels - 1) us
  pub crowded : Crowded us w.marks (whole_mask w)
  -- the walk's own mask is a tail that two or more share, but in the first round
  pub own : 1 ≤ w.level → is_shared us w.level (whole_mask w) ≡ true

one_of : {b : Bool} → b ≡ true → one b ≡ 1
unfolding one
one_of e = rw e

weighed_none : (v : ℕ → ℕ) {a b : ℕ} → a ≡ b → tally v [] + a ≡ b
unfolding tally
weighed_none v e = omega (arith, e)

pub start_fixed : (levels : ℕ) (us : List ℕ) (family : ℕ) → 1 ≤ levels → Fixed levels us (started_of levels family) [] 0
unfolding started_of whole_mask
start_fixed levels us family least =
    record {
      walks = start_walks levels family least;
      weighed = λ v. weighed_none v (ahead_start (weigh v us) levels family ∙ weigh_start v us);
      tails = ap (λ (n : ℕ). 1 + n) (ahead_start (below_at levels us) levels family ∙ below_start levels us);
      crowded = start_crowded us levels 0;
      own = λ h. absurd (omega arith);
    }

-- a slot that ends the walk at once leaves UIDs that weigh the same
pub ending_fixed : {levels : ℕ} (us : List ℕ) (w : Walk) (ls ls' : List ℕ) (t : ℕ) → Fixed levels us w ls t → ((v : ℕ → ℕ) → tally v ls' ≡ tally v ls)
    → Fixed levels us w ls' t
ending_fixed us w ls ls' t g same =
    record {
      walks = ending_walks w ls ls' t g.walks same;
      weighed = λ v. omega (arith, g.weighed v, same v);
      tails = g.tails;
      crowded = g.crowded;
      own = g.own;
    }

-- a slot that does not end the walk, by those it calls
note_of : {levels : ℕ} (us xs : List ℕ) (w : Walk) (ls ls' : List ℕ) (place : Bool) → called us w ≡ xs → w.slot < 16 → Fixed levels us w ls w.slot
    → (place ≡ true → w.count < 64) → ends_at_once w (slot_of xs) place ≡ 0 → Lists (slot_of xs) place ls ls'
    → Fixed levels us (noted w (slot_of xs)) ls' (suc w.slot)
unfolding slot_of noted added counted marked remade Fits tally called whole_mask
note_of {levels} us [] w ls ls' place c h g few e l =
    record {
      walks = note_walks w ls ls' Silent place h g.walks few e tt l;
      weighed = λ v.
          let heard = ahead_hear (weigh v us) w w.slot h in
          let weight : weigh v us (suc w.level) (slot_tail w.level (whole_mask w) w.slot) ≡ 0 = slot_weight v us [] w c in
          omega (arith, heard, weight, l v, g.weighed v);
      tails =
          let heard = ahead_hear (below_at levels us) w w.slot h in
          let weight = slot_alone levels us [] w h g.walks.steady c refl in
          omega (arith, heard, weight, g.tails);
      crowded = g.crowded;
      own = g.own;
    }
note_of {levels} us (x ∷ []) w ls ls' place c h g few e l =
    record {
      walks = note_walks w ls ls' (Clean x) place h g.walks few e (ending_head (suc w.level) (slot_tail w.level (whole_mask w) w.slot) x us [] c) l;
      weighed = λ v.
          let heard = ahead_hear (weigh v us) w w.slot h in
          let weight : weigh v us (suc w.level) (slot_tail w.level (whole_mask w) w.slot) ≡ v x + 0 = slot_weight v us (x ∷ []) w c in
          let more = clean_added v w x place e in
          let same = ahead_counted (weigh v us) w (suc w.slot) in
          omega (arith, heard, weight, more, l v, same, g.weighed v);
      tails =
          let heard = ahead_hear (below_at levels us) w w.slot h in
          let weight = slot_alone levels us (x ∷ []) w h g.walks.steady c refl in
          let same = ahead_counted (below_at levels us) w (suc w.slot) in
          omega (arith, heard, weight, same, g.tails);
      crowded = g.crowded;
      own = g.own;
    }
note_of {levels} us (x ∷ y ∷ xs) w ls ls' place c h g few e l =
    record {
      walks = note_walks w ls ls' Clashed place h g.walks few e tt l;
      weighed = λ v.
          let heard = ahead_hear (weigh v us) w w.slot h in
          let again = ahead_marked (weigh v us) w (suc w.slot) h g.walks.steady in
          omega (arith, heard, again, l v, g.weighed v);
      tails =
          let heard = ahead_hear (below_at levels us) w w.slot h in
          let again = ahead_marked (below_at levels us) w (suc w.slot) h g.walks.steady in
          omega (arith, heard, again, g.tails);
      crowded = marked_crowded us w h g.walks.steady g.crowded (slot_shared us (x ∷ y ∷ xs) w c ∙ le-leb 2 (suc (suc (length xs))) (omega arith));
      own = g.own;
    }

pub note_fixed : {levels : ℕ} (us : List ℕ) (w : Walk) (ls ls' : List ℕ) (place : Bool) → w.slot < 16 → Fixed levels us w ls w.slot
    → (place ≡ true → w.count < 64) → ends_at_once w (slot_of (called us w)) place ≡ 0 → Lists (slot_of (called us w)) place ls ls'
    → Fixed levels us (noted w (slot_of (called us w))) ls' (suc w.slot)
note_fixed us w ls ls' place h g few e l = note_of us (called us w) w ls ls' place refl h g few e l

pub next_fixed : {levels : ℕ} (us : List ℕ) (w : Walk) (ls : List ℕ) (t : ℕ) → w.slot < 15 → Fixed levels us w ls t → Fixed levels us (at_next_slot w) ls t
unfolding at_next_slot remade whole_mask
next_fixed {levels} us w ls t h g =
    record {
      walks = next_walks w ls t h g.walks;
      weighed = λ v. let same = ahead_next (weigh v us) w t in omega (arith, same, g.weighed v);
      tails = let same = ahead_next (below_at levels us) w t in omega (arith, same, g.tails);
      crowded = g.crowded;
      own = g.own;
    }

pub open_fixed : {levels : ℕ} (us : List ℕ) (w : Walk) (ls : List ℕ) (j : ℕ) → Fixed levels us w ls 16 → deepest w.marks ≡ suc j
    → w.rounds < most_rounds (length w.marks) → Fixed levels us (opened w j) ls 0
unfolding opened opened_at remade
open_fixed {levels} us w ls j g d r =
    let steady : Steady w 16 = g.walks.steady in
    record {
      walks = open_walks w ls j g.walks d r;
      weighed = λ v.
          let turned = ahead_opened (weigh v us) w j steady d in
          let parts = weigh_parts v us (suc j) (whole_mask (opened w j)) (opened_mask_below w j) in
          omega (arith, turned, parts, g.weighed v);
      tails =
          let turned = ahead_opened (below_at levels us) w j steady d in
          let parts = below_parts levels us (suc j) (whole_mask (opened w j)) (omega (arith, steady.accepted.last_level, g.walks.marks_length)) in
          let shared : one (is_shared us (suc j) (whole_mask (opened w j))) ≡ 1 = one_of (opened_shared us w j steady d g.crowded) in
          omega (arith, turned, parts, shared, g.tails);
      crowded = opened_crowded us w j steady d g.crowded;
      own = λ h. subst⁻¹ (λ (k : ℕ). is_shared us k (whole_mask (opened w j)) ≡ true) (add-one j) (opened_shared us w j steady d g.crowded);
    }
