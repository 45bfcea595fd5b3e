-- The bytes that a call from C leaves mean the card of its outcome, and are as many bytes as before, so that a call after a call is the event after
-- the event. Refused, the bytes stay; served, the next card fits the record. Assumes nothing.
use mathlib.Core.Path.{◌≡◌, refl, sym, ◌∙◌}
use mathlib.Core.Bool.{true}
use mathlib.Core.List.{List, []}
use Prim.Native.Nat.{ℕ}
use lib.ListN.{length}
use Rattle.lent.specs.Bytes.{Bytes}
use Rattle.lent.proofs.Bytes.{bytes_none}
use Rattle.card.specs.declared.Card.{Card}
use Rattle.card.specs.Record.{is_accepted}
use Rattle.card.proofs.Accepted.{accepted_changes}
use Rattle.record.specs.Record.{card_read}
use Rattle.record.proofs.RoundTrip.{read_of_record, length_record}
use Rattle.record.proofs.Numbers.{Numbers, numbers_read, numbers_changes, accepted_fits}
use Rattle.record.proofs.Written.{record_bytes}
use Rattle.play.specs.Refusal.{refusal, Accepted}
use Rattle.play.specs.Fits.{Kept}
use Rattle.play.specs.Events.{Outcome, unserved, frame_event, mark_event, off_event}
use Rattle.play.proofs.Refusals.{passes_of}
use Rattle.play.proofs.Outcomes.{frame_refused, mark_refused, off_refused}
use Rattle.play.proofs.EventKeeps.{frame_number, mark_number, off_number, frame_event_keeps, mark_event_keeps, off_event_keeps, frame_kept, mark_kept, off_kept}
use Rattle.board.specs.Calls.{settled, frame_call, mark_call, off_call}
use Rattle.board.proofs.CardCalls.{frame_call_lem, mark_call_lem, off_call_lem, served_length, left_by}

-- ---- any outcome

module _ (bytes memory locks found : List ℕ) (o : Outcome) where
  -- its number is the refusal, which leaves everything; the card is an accepted one if it was
  record Follows : Type 0 where
    pub number : o.number ≡ refusal (card_read bytes) (length memory) locks (length found)
    pub refuses : (Accepted (card_read bytes) memory locks found → ⊥)
        → o ≡ unserved (card_read bytes) memory locks found (refusal (card_read bytes) (length memory) locks (length found))
    pub accepted : is_accepted (card_read bytes) ≡ true → is_accepted o.card ≡ true
    pub kept : Kept (card_read bytes) o.card

  module _ (f : Follows) (bs : Bytes bytes) where
    next : Accepted (card_read bytes) memory locks found → is_accepted o.card ≡ true
    next a = f.accepted (passes_of (card_read bytes) (length memory) locks (length found) a).accepted

    card_back : card_read (settled o bytes).bytes ≡ o.card
    card_back =
        left_by bytes memory locks found o f.number f.refuses (λ (left : List ℕ) (c : Card). card_read left ≡ c)
        (λ a. read_of_record o.card bytes (served_length bytes memory locks found a)
        (accepted_fits o.card (next a) (rw f.kept.uid (numbers_read bytes bs).uid)))
        refl

    left_bytes : Numbers o.card → Bytes (settled o bytes).bytes × (length (settled o bytes).bytes ≡ length bytes)
    left_bytes n =
        left_by bytes memory locks found o f.number f.refuses (λ (left : List ℕ) (c : Card). Bytes left × (length left ≡ length bytes))
        (λ a. let is = served_length bytes memory locks found a in (record_bytes o.card bytes (next a) n bs, length_record o.card bytes is ∙ sym is))
        (bs, refl)

-- ---- the outcomes of the three events

frame_follows : (bytes frame memory locks found : List ℕ) → Follows bytes memory locks found (frame_event (card_read bytes) frame memory locks found)
frame_follows bytes frame memory locks found =
    record {
      number = frame_number (card_read bytes) frame memory locks found;
      refuses = frame_refused (card_read bytes) frame memory locks found;
      accepted = frame_event_keeps (card_read bytes) frame memory locks found (accepted_changes frame);
      kept = frame_kept (card_read bytes) frame memory locks found;
    }

mark_follows : (bytes memory locks found : List ℕ) → Follows bytes memory locks found (mark_event (card_read bytes) memory locks found)
mark_follows bytes memory locks found =
    record {
      number = mark_number (card_read bytes) memory locks found;
      refuses = mark_refused (card_read bytes) memory locks found;
      accepted = mark_event_keeps (card_read bytes) memory locks found (accepted_changes []);
      kept = mark_kept (card_read bytes) memory locks found;
    }

off_follows : (bytes memory locks found : List ℕ) → Follows bytes memory locks found (off_event (card_read bytes) memory locks found)
off_follows bytes memory locks found =
    record {
      number = off_number (card_read bytes) memory locks found;
      refuses = off_refused (card_read bytes) memory locks found;
      accepted = off_event_keeps (card_read bytes) memory locks found (accepted_changes []);
      kept = off_kept (card_read bytes) memory locks found;
    }

-- ---- the card is read back

pub frame_reads_back : (bytes frame memory locks found : List ℕ) → Bytes bytes
    → card_read (frame_call bytes frame memory locks found).bytes ≡ (frame_event (card_read bytes) frame memory locks found).card
frame_reads_back bytes frame memory locks found bs =
    rw (frame_call_lem bytes frame memory locks found) (card_back bytes memory locks found _ (frame_follows bytes frame memory locks found) bs)

pub mark_reads_back : (bytes memory locks found : List ℕ) → Bytes bytes
    → card_read (mark_call bytes memory locks found).bytes ≡ (mark_event (card_read bytes) memory locks found).card
mark_reads_back bytes memory locks found bs =
    rw (mark_call_lem bytes memory locks found) (card_back bytes memory locks found _ (mark_follows bytes memory locks found) bs)

pub off_reads_back : (bytes memory locks found : List ℕ) → Bytes bytes
    → card_read (off_call bytes memory locks found).bytes ≡ (off_event (card_read bytes) memory locks found).card
off_reads_back bytes memory locks found bs =
    rw (off_call_lem bytes memory locks found) (card_back bytes memory locks found _ (off_follows bytes memory locks found) bs)

-- ---- from bytes, as many

pub frame_leaves_bytes : (bytes frame memory locks found : List ℕ) → Bytes bytes → Bytes frame
    → Bytes (frame_call bytes frame memory locks found).bytes × (length (frame_call bytes frame memory locks found).bytes ≡ length bytes)
frame_leaves_bytes bytes frame memory locks found bs fs =
    let numbers = frame_event_keeps (card_read bytes) frame memory locks found (numbers_changes frame fs) (numbers_read bytes bs) in
    rw (frame_call_lem bytes frame memory locks found) (left_bytes bytes memory locks found _ (frame_follows bytes frame memory locks found) bs numbers)

pub mark_leaves_bytes : (bytes memory locks found : List ℕ) → Bytes bytes
    → Bytes (mark_call bytes memory locks found).bytes × (length (mark_call bytes memory locks found).bytes ≡ length bytes)
mark_leaves_bytes bytes memory locks found bs =
    let numbers = mark_event_keeps (card_read bytes) memory locks found (numbers_changes [] bytes_none) (numbers_read bytes bs) in
    rw (mark_call_lem bytes memory locks found) (left_bytes bytes memory locks found _ (mark_follows bytes memory locks found) bs numbers)

pub off_leaves_bytes : (bytes memory locks found : List ℕ) → Bytes bytes
    → Bytes (off_call bytes memory locks found).bytes × (length (off_call bytes memory locks found).bytes ≡ length bytes)
off_leaves_bytes bytes memory locks found bs =
    let numbers = off_event_keeps (card_read bytes) memory locks found (numbers_changes [] bytes_none) (numbers_read bytes bs) in
    rw (off_call_lem bytes memory locks found) (left_bytes bytes memory locks found _ (off_follows bytes memory locks found) bs numbers)
