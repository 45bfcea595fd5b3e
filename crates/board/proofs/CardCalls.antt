-- A call from C is the card's event, over the card that the bytes mean: bytes of another length than forty mean no card, which number 1 refuses.
-- By the tests of the definitions. Assumes nothing.
use mathlib.Core.Path.{◌≡◌, refl, sym, ap}
use mathlib.Core.Bool.{Bool, true, false, cond}
use mathlib.Core.List.{List, []}
use Prim.Native.Nat.{ℕ}
use native.Mathlib.Omega.{arith}
use borrow.Author.Tests.{eqb-true, eqb-false}
use lib.Dec.{eqb}
use lib.ListN.{length}
use Rattle.lent.specs.Lent.{refused}
use Rattle.frames.specs.Field.{field_of, field_at}
use Rattle.card.specs.declared.Card.{Card}
use Rattle.card.specs.Record.{shape_fits, is_accepted}
use Rattle.record.specs.Record.{record_length, card_of, card_read, record_of}
use Rattle.play.specs.Refusal.{refusal, Accepted}
use Rattle.play.specs.Events.{Outcome, unserved, frame_event, mark_event, off_event}
use Rattle.board.specs.Calls.{Left, back_of, bytes_after, settled, called, frame_call, mark_call, off_call}
use Rattle.board.proofs.Ways.{no_card_refused}

-- ---- a call is an event

called_settled : (bytes memory locks found : List ℕ) (o : Card → Outcome) → o (card_of []) ≡ unserved (card_of []) memory locks found 1
    → called bytes memory locks found (o (card_of bytes)) ≡ settled (o (card_read bytes)) bytes
unfolding called card_read settled unserved back_of bytes_after
called_settled bytes memory locks found o refuses = go (eqb (length bytes) record_length)
  where
    go : (b : Bool)
        → ◌≡◌ {A = Left} (cond b (settled (o (card_of bytes)) bytes) (record { back = refused 1; bytes = bytes; memory = memory; locks = locks; answer = found }))
        (settled (o (cond b (card_of bytes) (card_of []))) bytes)
    go true = refl
    go false = sym (ap (λ (u : Outcome). settled u bytes) refuses)

pub frame_call_lem : (bytes frame memory locks found : List ℕ)
    → frame_call bytes frame memory locks found ≡ settled (frame_event (card_read bytes) frame memory locks found) bytes
unfolding frame_call frame_event
frame_call_lem bytes frame memory locks found =
    called_settled bytes memory locks found (λ (c : Card). frame_event c frame memory locks found) (no_card_refused memory locks found _)

pub mark_call_lem : (bytes memory locks found : List ℕ) → mark_call bytes memory locks found ≡ settled (mark_event (card_read bytes) memory locks found) bytes
unfolding mark_call mark_event
mark_call_lem bytes memory locks found =
    called_settled bytes memory locks found (λ (c : Card). mark_event c memory locks found) (no_card_refused memory locks found _)

pub off_call_lem : (bytes memory locks found : List ℕ) → off_call bytes memory locks found ≡ settled (off_event (card_read bytes) memory locks found) bytes
unfolding off_call off_event
off_call_lem bytes memory locks found =
    called_settled bytes memory locks found (λ (c : Card). off_event c memory locks found) (no_card_refused memory locks found _)

-- ---- what its bytes are

-- a card that is served was read from forty bytes
pub served_length : (bytes memory locks found : List ℕ) → Accepted (card_read bytes) memory locks found → length bytes ≡ 40
unfolding card_read record_length refusal is_accepted shape_fits card_of field_at field_of
served_length bytes memory locks found a = go (eqb (length bytes) 40) refl a
  where
    go : (b : Bool) → eqb (length bytes) 40 ≡ b → Accepted (cond b (card_of bytes) (card_of [])) memory locks found → length bytes ≡ 40
    go true e a = eqb-true (length bytes) 40 e
    go false e a = absurd (omega arith)

-- served, or refused: what holds of the bytes that are left, and of the card
pub left_by : (bytes memory locks found : List ℕ) (o : Outcome) → o.number ≡ refusal (card_read bytes) (length memory) locks (length found)
    → ((Accepted (card_read bytes) memory locks found → ⊥)
    → o ≡ unserved (card_read bytes) memory locks found (refusal (card_read bytes) (length memory) locks (length found)))
    → (P : List ℕ → Card → Type 0) → (Accepted (card_read bytes) memory locks found → P (record_of o.card bytes) o.card)
    → P bytes (card_read bytes) → P (settled o bytes).bytes o.card
unfolding settled bytes_after unserved
left_by bytes memory locks found o number refuses P served stays = go (eqb n 0) refl
  where
    n : ℕ
    n = refusal (card_read bytes) (length memory) locks (length found)

    go : (b : Bool) → eqb n 0 ≡ b → P (settled o bytes).bytes o.card
    go true e = rw (number, e) (served (eqb-true n 0 e))
    go false e = rw (number, e, refuses (eqb-false n 0 e)) stays
