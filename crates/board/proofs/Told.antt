-- The answer's length is at most its room, for each of the three events. Refused, it is 0; served, by what the refusals rule out.
-- Assumes nothing.
use mathlib.Core.Path.{◌≡◌, refl}
use mathlib.Core.Bool.{Bool, true, false, cond}
use mathlib.Core.List.{List}
use Prim.Native.Nat.{ℕ, ◌≤◌}
use native.Mathlib.Omega.{arith}
use borrow.Author.Tests.{eqb-true}
use lib.Dec.{eqb}
use lib.ListN.{length}
use Rattle.card.specs.declared.Card.{Card}
use Rattle.card.specs.declared.Reply.{Reply}
use Rattle.commands.specs.Frame.{decided}
use Rattle.card.specs.Mark.{marked}
use Rattle.card.specs.Record.{powered_off}
use Rattle.card.specs.Reply.{reply_length}
use Rattle.card.specs.declared.Reply.TheVariants.{Silence}
use Rattle.play.specs.Refusal.{refusal, room_fits}
use Rattle.play.specs.Fits.{reply_fits}
use Rattle.play.specs.Answer.{reply_bytes}
use Rattle.play.specs.Events.{Outcome, replied, unserved, event, carried_out, frame_event, mark_event, off_event}
use Rattle.play.proofs.Room.{room_of, reply_most, silence_length}
use Rattle.play.proofs.ReadyFor.{deed_ready, mark_ready}
use Rattle.play.proofs.EventWays.{told_silence}
use Rattle.play.proofs.Lengths.{reply_told, deed_told}

-- an event, where what is served fits
event_told : (c : Card) (memory locks found : List ℕ) (o : Outcome)
    → (refusal c (length memory) locks (length found) ≡ 0 → o.told ≤ length found) → (event c memory locks found o).told ≤ length found
unfolding event unserved
event_told c memory locks found o h = go (eqb n 0) (λ e. h (eqb-true n 0 e))
  where
    n : ℕ
    n = refusal c (length memory) locks (length found)

    go : (b : Bool) → (b ≡ true → o.told ≤ length found) → (cond b o (unserved c memory locks found n)).told ≤ length found
    go true k = k refl
    go false k = omega arith

-- an answer is within the room that number 4 asks for
reply_fits_lem : (c : Card) (reply : Reply) (room n : ℕ) → reply_fits c reply ≡ true → room_fits c room ≡ true → n ≡ reply_length c reply → n ≤ room
reply_fits_lem c reply room n p q e = omega (arith, reply_most c reply p, (room_of c room q).asked)

frame_fits : (c : Card) (frame memory locks found : List ℕ) → (frame_event c frame memory locks found).told ≤ length found
unfolding frame_event carried_out
frame_fits c frame memory locks found =
    event_told c memory locks found (carried_out (decided c locks frame) frame memory locks found) (λ e.
    let ready = deed_ready c frame (length memory) locks (length found) (refusal c (length memory) locks (length found)) (decided c locks frame) refl e refl in
    reply_fits_lem (decided c locks frame).card (decided c locks frame).reply (length found) _ ready.reply ready.ready.fits
    (deed_told (decided c locks frame) frame memory locks found ready))

mark_fits : (c : Card) (memory locks found : List ℕ) → (mark_event c memory locks found).told ≤ length found
unfolding mark_event replied
mark_fits c memory locks found =
    event_told c memory locks found (replied (marked c).card memory locks (marked c).reply found) (λ e.
    let ready = mark_ready c (length memory) locks (length found) (refusal c (length memory) locks (length found)) (marked c) refl e refl in
    reply_fits_lem (marked c).card (marked c).reply (length found) _ ready.reply ready.ready.fits
    (reply_told (marked c).card memory locks (marked c).reply ready.ready.stored ready.ready.marks ready.reply))

off_fits : (c : Card) (memory locks found : List ℕ) → (off_event c memory locks found).told ≤ length found
unfolding off_event replied
off_fits c memory locks found =
    event_told c memory locks found (replied (powered_off c) memory locks Silence found) (λ e.
    omega (arith, told_silence (reply_bytes (powered_off c) memory locks Silence) found (silence_length (powered_off c) memory locks)))

-- the same of a length that is told

pub frame_told : (c : Card) (frame memory locks found : List ℕ) {n : ℕ} → n ≡ (frame_event c frame memory locks found).told → n ≤ length found
frame_told c frame memory locks found e = omega (arith, frame_fits c frame memory locks found)

pub mark_told : (c : Card) (memory locks found : List ℕ) {n : ℕ} → n ≡ (mark_event c memory locks found).told → n ≤ length found
mark_told c memory locks found e = omega (arith, mark_fits c memory locks found)

pub off_told : (c : Card) (memory locks found : List ℕ) {n : ℕ} → n ≡ (off_event c memory locks found).told → n ≤ length found
off_told c memory locks found e = omega (arith, off_fits c memory locks found)
