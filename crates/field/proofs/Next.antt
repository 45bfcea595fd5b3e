-- What a slot leaves of a walk of a fixed field: it moves on, opens a round, or stops with a verdict on the UIDs. Definitions that the steps
-- and stages share, and what a slot that is noted keeps. Assumes nothing.
use mathlib.Core.Path.{◌≡◌, refl}
use Prim.Native.Nat.{ℕ, suc, ◌+◌, ◌-◌, ◌/◌, ◌^◌, ◌≤◌, ◌<◌}
use mathlib.Core.List.{List}
use borrow.Author.Tests.{eqb-true}
use lib.ListN.{length}
use Rattle.tails.specs.Sum.{tally, times}
use Rattle.tails.specs.Tails.{shared_tails_to}
use Rattle.tails.proofs.Apart.{ToldApart, told_apart_top}
use Rattle.walk.specs.declared.Walk.{Walk}
use Rattle.walk.specs.declared.Slot.{Slot}
use Rattle.walk.specs.declared.Slot.TheVariants.{Silent, Clashed, Clean}
use Rattle.walk.specs.Record.{whole_mask, complete, twins, full, remade, ended, counted, marked}
use Rattle.walk.specs.Hear.{starts_e0, noted}
use Rattle.field.specs.Found.{Twins}
use Rattle.field.proofs.Called.{Starts}
use Rattle.field.proofs.FixedField.{Fixed}

-- a walk of so many levels suits the UIDs us: a card takes masks of up to 60 bits, and the UIDs are alike above their last digits
pub record Suits (levels : ℕ) (us : List ℕ) : Type 0 where
  pub most : levels ≤ 16
  pub starts : Starts levels us

-- so the last digits tell them apart
pub suits_apart : {levels : ℕ} {us : List ℕ} → Suits levels us → ToldApart levels us
unfolding Starts starts_e0
suits_apart {levels} {us} fit =
    let top : ℕ = 0xe000000000000000 / 16 ^ levels in
    told_apart_top us levels top (λ u h. eqb-true (u / 16 ^ levels) top (fit.starts u h))

-- what an ended walk of so many levels says of the UIDs us, ls being listed. Fewest: the fewest UIDs listed with which a clean one may find no place
pub data Verdict (levels fewest : ℕ) (us : List ℕ) (w : Walk) (ls : List ℕ) : Type 0 where
  completes : w.ending ≡ complete → w.count ≤ 64 → w.count ≡ length us → ((v : ℕ → ℕ) → tally v ls ≡ tally v us) → ((u : ℕ) → times u ls ≤ 1)
      → w.rounds ≡ 1 + shared_tails_to (levels - 1) us → Verdict levels fewest us w ls
  twin : w.ending ≡ twins → Twins (levels - 1) us w → Verdict levels fewest us w ls
  fills : w.ending ≡ full → fewest < length us → Verdict levels fewest us w ls

-- level, mask, slot, family and rounds stay
pub record Kept (w w' : Walk) : Type 0 where
  pub level : w'.level ≡ w.level
  pub mask : whole_mask w' ≡ whole_mask w
  pub slot : w'.slot ≡ w.slot
  pub family : w'.family ≡ w.family
  pub rounds : w'.rounds ≡ w.rounds

-- the walk w' that a slot leaves of w, with the UIDs ls' listed
pub data Next (levels fewest : ℕ) (us : List ℕ) (w w' : Walk) (ls' : List ℕ) : Type 0 where
  moves : Fixed levels us w' ls' (suc w.slot) → w.slot < 15 → w'.level ≡ w.level → whole_mask w' ≡ whole_mask w → w'.slot ≡ suc w.slot
      → w'.family ≡ w.family → w'.ending ≡ w.ending → w'.rounds ≡ w.rounds → Next levels fewest us w w' ls'
  opens : Fixed levels us w' ls' 0 → w.slot ≡ 15 → w'.slot ≡ 0 → w'.family ≡ w.family → w'.ending ≡ w.ending → w'.rounds ≡ suc w.rounds
      → Next levels fewest us w w' ls'
  stops : {x : Walk} {t : ℕ} → Fixed levels us x ls' t → Kept w x → (e : ℕ) → w' ≡ ended (suc e) x → Verdict levels fewest us w' ls'
      → Next levels fewest us w w' ls'

pub kept : (w : Walk) → Kept w w
kept w = record { level = refl; mask = refl; slot = refl; family = refl; rounds = refl }

pub noted_kept : (w : Walk) (slot : Slot) → Kept w (noted w slot)
unfolding noted counted marked remade whole_mask
noted_kept w Silent = record { level = refl; mask = refl; slot = refl; family = refl; rounds = refl }
noted_kept w Clashed = record { level = refl; mask = refl; slot = refl; family = refl; rounds = refl }
noted_kept w (Clean u) = record { level = refl; mask = refl; slot = refl; family = refl; rounds = refl }

pub noted_ending : (w : Walk) (slot : Slot) → (noted w slot).ending ≡ w.ending
unfolding noted counted marked remade
noted_ending w Silent = refl
noted_ending w Clashed = refl
noted_ending w (Clean u) = refl
