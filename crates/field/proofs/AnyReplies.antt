-- Whatever a walk hears, true or false, it lists no UID twice. By the weight of one UID, which is listed or lies ahead at most once.
-- Assumes nothing.
use mathlib.Core.Path.{◌≡◌, refl, sym, ◌∙◌}
use mathlib.Core.Bool.{Bool, true, false, cond}
use Prim.Native.Nat.{ℕ, suc, ◌+◌, ◌%◌, ◌^◌, ◌≤◌, ◌<◌}
use native.Mathlib.Omega.{arith}
use mathlib.Core.List.{List, [], ◌∷◌}
use borrow.Author.Tests.{eq-eqb, eqb-true}
use lib.Dec.{eqb}
use lib.ListN.{length}
use Rattle.tails.specs.Sum.{one, tally, times}
use Rattle.tails.specs.Tails.{ending}
use Rattle.tails.proofs.Tally.{tally_one}
use Rattle.walk.specs.declared.Walk.{Walk}
use Rattle.walk.specs.declared.Slot.{Slot}
use Rattle.walk.specs.declared.Slot.TheVariants.{Silent, Clashed, Clean}
use Rattle.walk.specs.Marks.{deepest}
use Rattle.walk.specs.Record.{whole_mask, most_rounds, remade, started_of, counted, marked, at_next_slot, opened_at, opened}
use Rattle.walk.specs.Hear.{ends_at_once, noted}
use Rattle.walk.proofs.HearWays.{clean_goes_on}
use Rattle.walk.proofs.LevelsStay.{levels_started, levels_noted, levels_opened}
use Rattle.field.proofs.Levels.{opened_mask_below}
use Rattle.field.proofs.Steady.{Steady, start_steady, noted_steady, next_steady, open_steady}
use Rattle.field.proofs.WaitSums.{slot_tail}
use Rattle.field.proofs.Ahead.{ahead, ahead_start, ahead_hear, ahead_counted, ahead_next, ahead_marked, ahead_opened}
use Rattle.field.proofs.Weights.{weigh, weigh_parts, weigh_start}

-- the weight of one UID
abbrev pub alone : ℕ → ℕ → ℕ → ℕ
alone u = weigh (λ x. 1) (u ∷ [])

-- a walk with the UIDs ls listed, about to hear slot t of its round
pub record Walks (levels : ℕ) (w : Walk) (ls : List ℕ) (t : ℕ) : Type 0 where
  pub steady : Steady w t
  pub marks_length : length w.marks ≡ levels
  -- as many as the walk counts
  pub number : length ls ≡ w.count
  pub single : (u : ℕ) → times u ls + ahead (alone u) w t ≤ 1

-- a clean UID fits mask and slot
unfoldable pub Fits : Walk → Slot → Type 0
Fits w Silent = Unit {0}
Fits w Clashed = Unit {0}
Fits w (Clean u) = u % 16 ^ suc w.level ≡ slot_tail w.level (whole_mask w) w.slot

pub start_walks : (levels family : ℕ) → 1 ≤ levels → Walks levels (started_of levels family) [] 0
unfolding started_of times tally
start_walks levels family least =
    record {
      steady = start_steady levels family least;
      marks_length = levels_started levels family;
      number = refl;
      single = λ u.
          let whole : ahead (alone u) (started_of levels family) 0 ≡ 1 = ahead_start (alone u) levels family ∙ weigh_start (λ x. 1) (u ∷ []) in
          omega arith;
    }

-- ---- the UIDs listed after a slot

-- what a slot adds to a weight of the UIDs listed
unfoldable pub added : (ℕ → ℕ) → Slot → Bool → ℕ
added v Silent place = 0
added v Clashed place = 0
added v (Clean u) place = cond place (v u) 0

-- the UIDs ls' listed after a slot: every weight of them has grown by what the slot adds
abbrev pub Lists : Slot → Bool → List ℕ → List ℕ → Type 0
Lists slot place ls ls' = (v : ℕ → ℕ) → tally v ls' ≡ tally v ls + added v slot place

-- a clean UID that ends nothing
pub clean_added : (v : ℕ → ℕ) (w : Walk) (u : ℕ) (place : Bool) → ends_at_once w (Clean u) place ≡ 0 → added v (Clean u) place ≡ v u
unfolding added
clean_added v w u place e = rw (clean_goes_on w {slot = Clean u} {place = place} {uid = u} refl e)

-- a slot that ends the walk at once
pub ending_added : (v : ℕ → ℕ) (w : Walk) (slot : Slot) (place : Bool) → (ends_at_once w slot place ≡ 0 → ⊥) → added v slot place ≡ 0
unfolding added ends_at_once
ending_added v w Silent place h = refl
ending_added v w Clashed place h = refl
ending_added v w (Clean u) true h = absurd (h refl)
ending_added v w (Clean u) false h = refl

-- it leaves UIDs that weigh the same: what holds of the walk stays
pub ending_walks : {levels : ℕ} (w : Walk) (ls ls' : List ℕ) (t : ℕ) → Walks levels w ls t → ((v : ℕ → ℕ) → tally v ls' ≡ tally v ls) → Walks levels w ls' t
unfolding times
ending_walks w ls ls' t g same =
    record {
      steady = g.steady;
      marks_length = g.marks_length;
      number = sym (tally_one ls') ∙ same (λ x. 1) ∙ tally_one ls ∙ g.number;
      single = λ u. omega (arith, g.single u, same (λ x. one (eqb x u)));
    }

-- the weight of the slot that a UID fits
fits_here : (x u j m : ℕ) → x % 16 ^ j ≡ m → one (eqb x u) ≤ alone u j m
unfolding one weigh ending tally
fits_here x u j m f = go (eqb x u) refl
  where
    go : (b : Bool) → eqb x u ≡ b → one b ≤ alone u j m
    go true e = rw (eq-eqb (u % 16 ^ j) m (rw (eqb-true x u e) at f)) (omega arith)
    go false e = omega arith

-- ---- a slot that does not end the walk

noted_number : (w : Walk) (ls ls' : List ℕ) (slot : Slot) (place : Bool) → length ls ≡ w.count → ends_at_once w slot place ≡ 0 → Lists slot place ls ls'
    → length ls' ≡ (noted w slot).count
unfolding noted counted marked remade added
noted_number w ls ls' Silent place n e l = omega (arith, n, l (λ x. 1), tally_one ls, tally_one ls')
noted_number w ls ls' Clashed place n e l = omega (arith, n, l (λ x. 1), tally_one ls, tally_one ls')
noted_number w ls ls' (Clean x) place n e l = omega (arith, n, l (λ x. 1), tally_one ls, tally_one ls', clean_added (λ x. 1) w x place e)

-- a UID that is listed was ahead in this slot
noted_single : {levels : ℕ} (w : Walk) (ls ls' : List ℕ) (slot : Slot) (place : Bool) → w.slot < 16 → Walks levels w ls w.slot
    → ends_at_once w slot place ≡ 0 → Fits w slot → Lists slot place ls ls' → (u : ℕ) → times u ls' + ahead (alone u) (noted w slot) (suc w.slot) ≤ 1
unfolding noted added Fits times
noted_single w ls ls' Silent place h g e f l u = omega (arith, g.single u, l (λ y. one (eqb y u)), ahead_hear (alone u) w w.slot h)
noted_single w ls ls' Clashed place h g e f l u =
    let again = ahead_marked (alone u) w (suc w.slot) h g.steady in
    omega (arith, g.single u, l (λ y. one (eqb y u)), ahead_hear (alone u) w w.slot h, again)
noted_single w ls ls' (Clean x) place h g e f l u =
    let tail : ℕ = slot_tail w.level (whole_mask w) w.slot in
    let more = clean_added (λ y. one (eqb y u)) w x place e in
    let heard = ahead_hear (alone u) w w.slot h in
    let same = ahead_counted (alone u) w (suc w.slot) in
    let here : one (eqb x u) ≤ alone u (suc w.level) tail = fits_here x u (suc w.level) tail f in
    omega (arith, l (λ y. one (eqb y u)), more, g.single u, heard, same, here)

pub note_walks : {levels : ℕ} (w : Walk) (ls ls' : List ℕ) (slot : Slot) (place : Bool) → w.slot < 16 → Walks levels w ls w.slot
    → (place ≡ true → w.count < 64) → ends_at_once w slot place ≡ 0 → Fits w slot → Lists slot place ls ls'
    → Walks levels (noted w slot) ls' (suc w.slot)
note_walks w ls ls' slot place h g few e f l =
    record {
      steady = noted_steady w slot place few h e g.steady;
      marks_length = levels_noted w slot ∙ g.marks_length;
      number = noted_number w ls ls' slot place g.number e l;
      single = noted_single w ls ls' slot place h g e f l;
    }

-- ---- the next slot, the next round

pub next_walks : {levels : ℕ} (w : Walk) (ls : List ℕ) (t : ℕ) → w.slot < 15 → Walks levels w ls t → Walks levels (at_next_slot w) ls t
unfolding at_next_slot remade
next_walks w ls t h g =
    record {
      steady = next_steady w t h g.steady;
      marks_length = g.marks_length;
      number = g.number;
      single = λ u. omega (arith, g.single u, ahead_next (alone u) w t);
    }

pub open_walks : {levels : ℕ} (w : Walk) (ls : List ℕ) (j : ℕ) → Walks levels w ls 16 → deepest w.marks ≡ suc j
    → w.rounds < most_rounds (length w.marks) → Walks levels (opened w j) ls 0
unfolding opened opened_at remade
open_walks w ls j g d r =
    record {
      steady = open_steady w j d r g.steady;
      marks_length = levels_opened w j ∙ g.marks_length;
      number = g.number;
      single = λ u.
          let turned = ahead_opened (alone u) w j g.steady d in
          let parts = weigh_parts (λ x. 1) (u ∷ []) (suc j) (whole_mask (opened w j)) (opened_mask_below w j) in
          omega (arith, g.single u, turned, parts);
    }
