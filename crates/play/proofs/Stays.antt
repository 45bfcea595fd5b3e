-- What a served event leaves is served again, by any event: the record is one that number 1 accepts, memory, lock bytes and room have their
-- lengths, and every lock byte is 0 or 1. By what a deed keeps and where it stays. Assumes nothing.
use mathlib.Core.Path.{◌≡◌, refl}
use mathlib.Core.Bool.{Bool, true, false, cond, and-eq-true_iff}
use Prim.Native.Nat.{ℕ, zero, suc, ◌+◌, ◌*◌, ◌≤◌}
use mathlib.Core.List.{List, [], ◌∷◌}
use lib.Dec.{eqb, leb}
use lib.ListN.{length, set, length-set}
use Rattle.lent.specs.Lent.{over}
use Rattle.lent.proofs.Over.{length_over}
use Rattle.crc.specs.Check.{sealed}
use Rattle.crc.proofs.Seal.{length_sealed}
use Rattle.card.specs.declared.Card.{Card}
use Rattle.card.specs.declared.Reply.{Reply}
use Rattle.card.specs.declared.Reply.TheVariants.{Silence}
use Rattle.card.specs.Record.{is_accepted, powered_off}
use Rattle.card.specs.Mark.{marked}
use Rattle.card.proofs.Changes.{off_keeps, marked_keeps}
use Rattle.card.proofs.Accepted.{tests_of, accepted_changes, marked_accepted, off_accepted}
use Rattle.commands.specs.declared.Deed.{Deed}
use Rattle.commands.specs.declared.Effect.{Effect}
use Rattle.commands.specs.declared.Effect.TheVariants.{Leave, Write, Lock}
use Rattle.commands.specs.Frame.{decided}
use Rattle.commands.proofs.Keeps.{decided_keeps}
use Rattle.play.specs.Refusal.{lengths_fit, locks_fit, room_asked, room_fits, refusal, Accepted}
use Rattle.play.specs.Effects.{memory_after, locks_after}
use Rattle.play.specs.Answer.{reply_bytes}
use Rattle.play.specs.Fits.{effect_fits, reply_fits, Kept}
use Rattle.play.specs.Steps.{Ready, DeedReady}
use Rattle.play.specs.Events.{answered, Outcome, replied, event, carried_out, frame_event, mark_event, off_event, AcceptedNext}
use Rattle.play.proofs.Within.{Written, write_within}
use Rattle.play.proofs.Stores.{length_stored}
use Rattle.play.proofs.Room.{reply_room}
use Rattle.play.proofs.Kept.{self_kept, kept_changes}
use Rattle.play.proofs.Turns.{marked_brief}
use Rattle.play.proofs.Brief.{brief_fits}
use Rattle.play.proofs.Refusals.{Passes, passes_of, refusal_none}
use Rattle.play.proofs.ReadyFor.{ready_of, ready_shape, deed_ready}
use Rattle.play.proofs.EventWays.{event_served}

-- ---- lengths, and lock bytes

length_answered : (body found : List ℕ) → length body + 2 ≤ length found → length (answered body found) ≡ length found
unfolding answered
length_answered body found h = go (eqb (length body) 0)
  where
    go : (b : Bool) → length (cond b found (over (sealed body) found)) ≡ length found
    go true = refl
    go false = length_over (sealed body) found (rw (length_sealed body) h)

pub length_memory : (c : Card) (frame memory : List ℕ) (e : Effect) → effect_fits c frame e ≡ true → length memory ≡ c.blocks * c.size
    → length (memory_after c frame memory e) ≡ length memory
unfolding memory_after
length_memory c frame memory Leave fits is = refl
length_memory c frame memory (Write first n place) fits is =
    let w : Written c frame first n place = write_within {c = c} {frame = frame} refl fits in
    length_stored frame place c.size first n memory w.source (rw is w.inside)
length_memory c frame memory (Lock block) fits is = refl

pub length_locks : (locks : List ℕ) (e : Effect) → length (locks_after locks e) ≡ length locks
unfolding locks_after
length_locks locks Leave = refl
length_locks locks (Write first n place) = refl
length_locks locks (Lock block) = length-set locks block 1

set_fits : (locks : List ℕ) (block : ℕ) → locks_fit locks ≡ true → locks_fit (set locks block 1) ≡ true
unfolding locks_fit
set_fits [] block e = refl
set_fits (b ∷ locks) zero e = ((and-eq-true_iff (leb b 1) (locks_fit locks)).0 e).1
set_fits (b ∷ locks) (suc block) e =
    let both = (and-eq-true_iff (leb b 1) (locks_fit locks)).0 e in
    rw both.0 (set_fits locks block both.1)

locks_fit_lem : (locks : List ℕ) (e : Effect) → locks_fit locks ≡ true → locks_fit (locks_after locks e) ≡ true
unfolding locks_after
locks_fit_lem locks Leave h = h
locks_fit_lem locks (Write first n place) h = h
locks_fit_lem locks (Lock block) h = set_fits locks block h

-- ---- what an event makes of the four tests

module _ (card : Card) (memory locks found : List ℕ) (a : Accepted card memory locks found) where
  passes : Passes card (length memory) locks (length found)
  passes = passes_of card (length memory) locks (length found) a

  -- a card that is kept and accepted, over memory and lock bytes of the same lengths
  replied_next : (c : Card) (m l : List ℕ) (reply : Reply) → Kept card c → is_accepted c ≡ true → length m ≡ length memory → length l ≡ length locks
      → locks_fit l ≡ true → reply_fits c reply ≡ true → AcceptedNext (replied c m l reply found)
  unfolding replied lengths_fit room_fits room_asked
  replied_next c m l reply same accepted em el marks fits =
      let ready : Ready c (length m) (length l) (length found) =
      rw (em, el) (ready_shape card c same (length memory) locks (length found) (ready_of card (length memory) locks (length found) a)) in
      let body : List ℕ = reply_bytes c m l reply in
      refusal_none c (length m) l (length (answered body found))
      (record {
        accepted = accepted;
        lengths = rw (em, el, same.blocks, same.size) passes.lengths;
        marks = marks;
        space = rw (length_answered body found (reply_room c m l reply (length found) ready fits)) ready.fits;
      })

  event_next : (served : Outcome) → AcceptedNext served → AcceptedNext (event card memory locks found served)
  event_next served h = rw (event_served card memory locks found served (refusal card (length memory) locks (length found)) refl a) h

-- ---- the three events

pub frame_stays : (c : Card) (frame memory locks found : List ℕ) → Accepted c memory locks found → AcceptedNext (frame_event c frame memory locks found)
unfolding frame_event carried_out
frame_stays c frame memory locks found a =
    let d : Deed = decided c locks frame in
    let p : Passes c (length memory) locks (length found) = passes c memory locks found a in
    let ready : DeedReady frame d (length memory) (length locks) (length found) =
    deed_ready c frame (length memory) locks (length found) (refusal c (length memory) locks (length found)) d refl a refl in
    event_next c memory locks found a _
    (replied_next c memory locks found a d.card _ _ d.reply
    (decided_keeps (kept_changes c frame) c (self_kept c) locks)
    (decided_keeps (accepted_changes frame) c p.accepted locks)
    (length_memory d.card frame memory d.effect ready.effect ready.ready.stored)
    (length_locks locks d.effect)
    (locks_fit_lem locks d.effect p.marks)
    ready.reply)

pub mark_stays : (c : Card) (memory locks found : List ℕ) → Accepted c memory locks found → AcceptedNext (mark_event c memory locks found)
unfolding mark_event
mark_stays c memory locks found a =
    let p : Passes c (length memory) locks (length found) = passes c memory locks found a in
    event_next c memory locks found a _
    (replied_next c memory locks found a (marked c).card memory locks (marked c).reply
    (marked_keeps (kept_changes c []) c (self_kept c) (tests_of c p.accepted).sequence)
    (marked_accepted c p.accepted) refl refl p.marks
    (brief_fits (marked c).card (marked c).reply (marked_brief c)))

pub off_stays : (c : Card) (memory locks found : List ℕ) → Accepted c memory locks found → AcceptedNext (off_event c memory locks found)
unfolding off_event reply_fits
off_stays c memory locks found a =
    let p : Passes c (length memory) locks (length found) = passes c memory locks found a in
    event_next c memory locks found a _
    (replied_next c memory locks found a (powered_off c) memory locks Silence
    (off_keeps (kept_changes c []) c (self_kept c)) (off_accepted c p.accepted) refl refl p.marks refl)
