-- The ways out of the three events: refused, or served; and of a reply: silence, or bytes with their check. By the one test of each.
-- Assumes nothing.
use mathlib.Core.Path.{◌≡◌, refl, ◌∙◌}
use Prim.Native.Nat.{ℕ, ◌+◌}
use mathlib.Core.Bool.{true, cond}
use native.Mathlib.Omega.{arith}
use mathlib.Core.List.{List, [], ◌∷◌}
use borrow.Author.Tests.{eq-eqb, ne_eqb}
use lib.Dec.{eqb}
use lib.ListN.{length}
use Rattle.std.specs.Prelude.{Result, Ok, Err}
use Rattle.std.specs.Result.{IsErrAnd}
use Rattle.std.proofs.lemmas.Result.{err_from_is_err_and}
use Rattle.lent.specs.Lent.{over}
use Rattle.lent.specs.Puts.{Puts}
use Rattle.lent.proofs.Over.{over_none, over_over, take_over}
use Rattle.refusals.specs.declared.Refusal.{Refusal}
use Rattle.refusals.specs.Number.{number, number_of}
use Rattle.refusals.proofs.Numbers.{number_is_some}
use Rattle.crc.specs.Check.{sealed}
use Rattle.card.specs.declared.Card.{Card}
use Rattle.card.specs.declared.Reply.{Reply}
use Rattle.card.specs.declared.Reply.TheVariants.{Silence}
use Rattle.commands.specs.declared.Deed.{Deed}
use Rattle.card.specs.declared.Turn.{Turn}
use Rattle.card.specs.Record.{powered_off}
use Rattle.card.specs.Mark.{marked}
use Rattle.commands.specs.declared.Effect.TheVariants.{Leave}
use Rattle.commands.specs.Request.{deed}
use Rattle.commands.specs.Frame.{decided}
use Rattle.play.proofs.Brief.{brief_bytes}
use Rattle.play.proofs.Room.{silence_length}
use Rattle.play.specs.declared.Served.{Served}
use Rattle.play.specs.Effects.{memory_after, locks_after}
use Rattle.play.specs.Refusal.{refusal}
use Rattle.play.specs.Steps.{is_brief, Finishes}
use Rattle.play.specs.Answer.{reply_bytes}
use Rattle.play.specs.Events.{length_told, answered, Outcome, replied, unserved, event, carried_out, frame_event, card_after, length_of, Leaves}

module _ (c : Card) (memory locks found : List ℕ) (served : Outcome) where
  pub event_refused : (n : ℕ) → n ≡ refusal c (length memory) locks (length found) → (n ≡ 0 → ⊥)
      → event c memory locks found served ≡ unserved c memory locks found n
  unfolding event
  event_refused n e h = rw (← e, ne_eqb n 0 h)

  pub event_served : (n : ℕ) → n ≡ refusal c (length memory) locks (length found) → n ≡ 0 → event c memory locks found served ≡ served
  unfolding event
  event_served n e h = rw (← e, eq-eqb n 0 h)

-- a frame whose deed leaves memory and locks
pub frame_served : (c : Card) (memory locks found frame : List ℕ) → refusal c (length memory) locks (length found) ≡ 0
    → (next : Card) (reply : Reply) → decided c locks frame ≡ deed next Leave reply
    → frame_event c frame memory locks found ≡ replied next memory locks reply found
unfolding frame_event carried_out memory_after locks_after
frame_served c memory locks found frame served next reply d = event_served c memory locks found _ _ refl served ∙ rw d

module _ (body found : List ℕ) where
  pub told_silence : length body ≡ 0 → 0 ≡ length_told body
  unfolding length_told
  told_silence h = rw (eq-eqb (length body) 0 h)

  pub told_length : (length body ≡ 0 → ⊥) → length body + 2 ≡ length_told body
  unfolding length_told
  told_length h = rw (ne_eqb (length body) 0 h)

  pub answered_silence : length body ≡ 0 → found ≡ answered body found
  unfolding answered
  answered_silence h = rw (eq-eqb (length body) 0 h)

  pub answered_bytes : (length body ≡ 0 → ⊥) → over (sealed body) found ≡ answered body found
  unfolding answered
  answered_bytes h = rw (ne_eqb (length body) 0 h)

-- ---- what a call promises, way by way

module _ (card : Card) (memory locks found : List ℕ) (served : Outcome) where
  pub leaves_refused : (e : Refusal) → number e ≡ refusal card (length memory) locks (length found)
      → Leaves card (event card memory locks found served) (Err e) memory locks found
  unfolding unserved card_after length_of number_of
  leaves_refused e told =
      rw (event_refused card memory locks found served (number e) told (number_is_some e))
      (record { card = refl; number = refl; told = refl; memory_left = refl; locks_left = refl; answer_left = refl })

  -- the same at the exit of a `?`
  pub leaves_exit : (r : Result Served Refusal) (e : Refusal) → IsErrAnd r (λ f. f ≡ e) → number e ≡ refusal card (length memory) locks (length found)
      → Leaves card (event card memory locks found served) r memory locks found
  leaves_exit r e is told =
      let p = err_from_is_err_and r is in
      rw (p.1, p.2) (leaves_refused e told)

  pub leaves_served : (c : Card) (s : Served) (m l a : List ℕ) → 0 ≡ refusal card (length memory) locks (length found) → Leaves c served (Ok s) m l a → Leaves card (event card memory locks found served) (Ok s) m l a
  unfolding card_after
  leaves_served c s m l a told p =
      rw (event_served card memory locks found served 0 told refl)
      (record { card = p.card; number = p.number; told = p.told; memory_left = p.memory_left; locks_left = p.locks_left; answer_left = p.answer_left })

-- ---- a reply, silent or with its check

-- a body that was put, and what finishing it leaves
empty_stays : (body found other : List ℕ) → cond (eqb (length body) 0) (over body found) other ≡ cond (eqb (length body) 0) found other
empty_stays [] found other = over_none found
empty_stays (b ∷ body) found other = rw (ne_eqb (length (b ∷ body)) 0 (omega arith))

finished : (body found : List ℕ) {n : ℕ} {e : List ℕ} {r : ℕ} {left : List ℕ} → Puts body found n e → Finishes n e r left
    → (r ≡ length_told body) × (left ≡ answered body found)
unfolding length_told answered sealed
finished body found p f = (
  rw p.count at f.told,
  rw (p.count, p.leaves, take_over body found, over_over) at f.leaves ∙ empty_stays body found _,
)

-- a reply over memory and locks that now are m and l
pub leaves_reply : (c : Card) (m l found : List ℕ) (reply : Reply) {n : ℕ} {e : List ℕ} {r : ℕ} {a : List ℕ}
    → Puts (reply_bytes c m l reply) found n e → Finishes n e r a
    → (old : Card) → Leaves old (replied c m l reply found) (Ok (record { card = c; length = r })) m l a
unfolding replied card_after length_of number_of
leaves_reply c m l found reply p f old =
    let done = finished (reply_bytes c m l reply) found p f in
    record { card = refl; number = refl; told = done.0; memory_left = refl; locks_left = refl; answer_left = done.1 }

-- a deed that was carried out
pub leaves_deed : (d : Deed) (frame memory locks found : List ℕ) {m l : List ℕ} {n : ℕ} {e : List ℕ} {r : ℕ} {a : List ℕ}
    → m ≡ memory_after d.card frame memory d.effect → l ≡ locks_after locks d.effect
    → Puts (reply_bytes d.card m l d.reply) found n e → Finishes n e r a
    → (old : Card) → Leaves old (carried_out d frame memory locks found) (Ok (record { card = d.card; length = r })) m l a
unfolding carried_out
leaves_deed d frame memory locks found {m} {l} p q put f old = rw (← p, ← q) (leaves_reply d.card m l found d.reply put f old)

-- power off, and a mark's turn
pub leaves_off : (card c : Card) (memory locks found : List ℕ) → c ≡ powered_off card
    → Leaves card (replied (powered_off card) memory locks Silence found) (Ok (record { card = c; length = 0 })) memory locks found
unfolding replied card_after length_of number_of
leaves_off card c memory locks found e =
    let none : length (reply_bytes (powered_off card) memory locks Silence) ≡ 0 = silence_length (powered_off card) memory locks in
    record {
      card = e;
      number = refl;
      told = told_silence (reply_bytes (powered_off card) memory locks Silence) found none;
      memory_left = refl;
      locks_left = refl;
      answer_left = answered_silence (reply_bytes (powered_off card) memory locks Silence) found none;
    }

pub leaves_turn : (card : Card) (t : Turn) (memory locks found : List ℕ) {n : ℕ} {e : List ℕ} {r : ℕ} {a : List ℕ} → t ≡ marked card
    → is_brief t.reply ≡ true → Puts (reply_bytes t.card [] [] t.reply) found n e → Finishes n e r a
    → Leaves card (replied (marked card).card memory locks (marked card).reply found) (Ok (record { card = t.card; length = r })) memory locks a
leaves_turn card t memory locks found is brief put f =
    rw (← is) (leaves_reply t.card memory locks found t.reply (rw (brief_bytes t.card memory locks t.reply brief) put) f card)
