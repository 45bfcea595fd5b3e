-- 01, The card: the three events as C calls them, over the bytes of a record. Number 1 also refuses a record of another length.
use Rattle.std.specs.Prelude.{ℕ, cond, List, ◌≡◌, eqb, ℤ, pos, length}
use Rattle.lent.specs.Lent.{refused}
use Rattle.card.specs.declared.Card.{Card}
use Rattle.play.specs.Events.{Outcome, frame_event, mark_event, off_event}
use Rattle.record.specs.Record.{record_length, card_of, record_of}

-- all that a call leaves behind: the number back, and every lent byte
pub record Left : Type 0 where
  pub back : ℤ
  pub bytes : List ℕ
  pub memory : List ℕ
  pub locks : List ℕ
  pub answer : List ℕ

-- the answer's length, 0 for silence, or minus the number of the refusal
unfoldable pub back_of : ℕ → ℕ → ℤ
back_of number told = cond (eqb number 0) (pos told) (refused number)

-- "All change nothing.": a call that is served writes the next record
unfoldable pub bytes_after : ℕ → Card → List ℕ → List ℕ
bytes_after number card bytes = cond (eqb number 0) (record_of card bytes) bytes

unfoldable pub settled : Outcome → List ℕ → Left
settled o bytes =
    record {
      back = back_of o.number o.told;
      bytes = bytes_after o.number o.card bytes;
      memory = o.memory;
      locks = o.locks;
      answer = o.answer;
    }

-- a record of another length is number 1
unfoldable pub called : List ℕ → List ℕ → List ℕ → List ℕ → Outcome → Left
called bytes memory locks found o =
    cond (eqb (length bytes) record_length)
    (settled o bytes)
    (record { back = refused 1; bytes = bytes; memory = memory; locks = locks; answer = found })

unfoldable pub frame_call : List ℕ → List ℕ → List ℕ → List ℕ → List ℕ → Left
frame_call bytes frame memory locks found = called bytes memory locks found (frame_event (card_of bytes) frame memory locks found)

unfoldable pub mark_call : List ℕ → List ℕ → List ℕ → List ℕ → Left
mark_call bytes memory locks found = called bytes memory locks found (mark_event (card_of bytes) memory locks found)

unfoldable pub off_call : List ℕ → List ℕ → List ℕ → List ℕ → Left
off_call bytes memory locks found = called bytes memory locks found (off_event (card_of bytes) memory locks found)

-- what the three calls promise: the number r, and every lent byte
pub record Gives (l : Left) (r : ℤ) (bytes memory locks answer : List ℕ) : Type 0 where
  pub back : r ≡ l.back
  pub bytes_left : bytes ≡ l.bytes
  pub memory_left : memory ≡ l.memory
  pub locks_left : locks ≡ l.locks
  pub answer_left : answer ≡ l.answer
