-- The number of an event is its refusal, and what each change of a record keeps, every event keeps: shape, UID and IC reference among it.
-- Refused, the card stays; served, by the changes. Assumes nothing.
use mathlib.Core.Path.{◌≡◌, refl}
use mathlib.Core.Bool.{Bool, true, false, cond}
use Prim.Native.Nat.{ℕ}
use mathlib.Core.List.{List, []}
use borrow.Author.Tests.{eqb-true}
use lib.Dec.{eqb}
use lib.ListN.{length}
use Rattle.card.specs.declared.Card.{Card}
use Rattle.card.proofs.Changes.{Changes, off_keeps, marked_keeps}
use Rattle.card.proofs.Accepted.{tests_of}
use Rattle.commands.proofs.Keeps.{decided_keeps}
use Rattle.play.specs.Refusal.{refusal, Accepted}
use Rattle.play.specs.Fits.{Kept}
use Rattle.play.specs.Events.{Outcome, replied, unserved, event, carried_out, frame_event, mark_event, off_event}
use Rattle.play.proofs.Refusals.{passes_of}
use Rattle.play.proofs.Kept.{self_kept, kept_changes}

module _ (c : Card) (memory locks found : List ℕ) where
  abbrev n : ℕ
  n = refusal c (length memory) locks (length found)

  number_of : (served : Outcome) → served.number ≡ 0 → (event c memory locks found served).number ≡ n
  unfolding event unserved
  number_of served e = go (eqb n 0) refl
    where
      go : (b : Bool) → eqb n 0 ≡ b → (cond b served (unserved c memory locks found n)).number ≡ n
      go true h = rw (eqb-true n 0 h) e
      go false h = refl

  card_of_lem : (Q : Card → Type 0) (served : Outcome) → Q c → (Accepted c memory locks found → Q served.card) → Q (event c memory locks found served).card
  unfolding event unserved
  card_of_lem Q served q h = go (eqb n 0) refl
    where
      go : (b : Bool) → eqb n 0 ≡ b → Q (cond b served (unserved c memory locks found n)).card
      go true e = h (eqb-true n 0 e)
      go false e = q

pub frame_number : (c : Card) (frame memory locks found : List ℕ) → (frame_event c frame memory locks found).number ≡ refusal c (length memory) locks (length found)
unfolding frame_event carried_out replied
frame_number c frame memory locks found = number_of c memory locks found _ refl

pub mark_number : (c : Card) (memory locks found : List ℕ) → (mark_event c memory locks found).number ≡ refusal c (length memory) locks (length found)
unfolding mark_event replied
mark_number c memory locks found = number_of c memory locks found _ refl

pub off_number : (c : Card) (memory locks found : List ℕ) → (off_event c memory locks found).number ≡ refusal c (length memory) locks (length found)
unfolding off_event replied
off_number c memory locks found = number_of c memory locks found _ refl

-- ---- what each change keeps

module _ {Q : Card → Type 0} where
  pub frame_event_keeps : (c : Card) (frame memory locks found : List ℕ) → Changes Q frame → Q c → Q (frame_event c frame memory locks found).card
  unfolding frame_event carried_out replied
  frame_event_keeps c frame memory locks found change q = card_of_lem c memory locks found Q _ q (λ a. decided_keeps change c q locks)

  pub mark_event_keeps : (c : Card) (memory locks found : List ℕ) → Changes Q [] → Q c → Q (mark_event c memory locks found).card
  unfolding mark_event replied
  mark_event_keeps c memory locks found change q =
      card_of_lem c memory locks found Q _ q
      (λ a. marked_keeps change c q (tests_of c (passes_of c (length memory) locks (length found) a).accepted).sequence)

  pub off_event_keeps : (c : Card) (memory locks found : List ℕ) → Changes Q [] → Q c → Q (off_event c memory locks found).card
  unfolding off_event replied
  off_event_keeps c memory locks found change q = card_of_lem c memory locks found Q _ q (λ a. off_keeps change c q)

-- ---- shape, UID and IC reference

pub frame_kept : (c : Card) (frame memory locks found : List ℕ) → Kept c (frame_event c frame memory locks found).card
frame_kept c frame memory locks found = frame_event_keeps c frame memory locks found (kept_changes c frame) (self_kept c)

pub mark_kept : (c : Card) (memory locks found : List ℕ) → Kept c (mark_event c memory locks found).card
mark_kept c memory locks found = mark_event_keeps c memory locks found (kept_changes c []) (self_kept c)

pub off_kept : (c : Card) (memory locks found : List ℕ) → Kept c (off_event c memory locks found).card
off_kept c memory locks found = off_event_keeps c memory locks found (kept_changes c []) (self_kept c)
