-- What the answers of a card are read as, whatever the reader's promise allows: what the card holds, success, or the code. By what they are read as in full. Assumes nothing.
use mathlib.Core.Path.{◌≡◌, sym, ◌∙◌}
use mathlib.Core.Bool.{true, false}
use mathlib.Core.List.{List, [], ◌∷◌}
use Prim.Native.Nat.{ℕ, ◌*◌, ◌≤◌, ◌<◌, ◌^◌}
use borrow.Author.Tests.{eq-eqb, ne_eqb}
use lib.Dec.{eqb}
use lib.ListN.{length}
use Rattle.std.specs.Prelude.{Some, Result, Ok, Err}
use Rattle.std.specs.Result.{result_ok}
use Rattle.refusals.specs.declared.Refusal.{Refusal}
use Rattle.lent.specs.Lent.{over}
use Rattle.lent.proofs.Over.{over_none}
use Rattle.crc.specs.Check.{sealed}
use Rattle.card.specs.declared.Card.{Card}
use Rattle.play.specs.Answer.{reply_bytes}
use Rattle.reader.specs.declared.Request.{Request}
use Rattle.reader.specs.declared.Reading.{Reading}
use Rattle.reader.specs.declared.Reading.TheVariants.{Error}
use Rattle.reader.specs.Request.{is_request}
use Rattle.reader.specs.Reading.{outcome, reading, Reads}
use Rattle.reader.specs.Shown.{moves_blocks, is_held, code_of, reading_held, bytes_held, marks_held, shown_reading, shown_bytes, Shows}
use Rattle.reader.specs.Exchange.{Fits, ReadAs}
use Rattle.reader.proofs.Asked.{reply_to}
use Rattle.reader.proofs.Kept.{Kept}
use Rattle.reader.proofs.Ready.{Ready, ready_of}
use Rattle.reader.proofs.Codes.{inside_of, inside_kept, held_done, held_reading, held_bytes, held_marks}
use Rattle.reader.proofs.Replies.{success_read, error_read, done_read}

-- ---- what is read is shown

-- a reading is that of a call that was served
read_ok : {x : Reading} (r : Result Reading Refusal) → result_ok r ≡ Some x → r ≡ Ok x
read_ok (Ok y) is = cc
read_ok (Err e) is = cc

module _ (code : ℕ) (c : Card) (memory locks : List ℕ) (q : Request) (answer : List ℕ) (found found' : List ℕ) where
  shows_held : code ≡ 0
      → reading q answer found found' ≡ outcome 0 (Some (reading_held c q)) (over (bytes_held memory q) found) (over (marks_held locks q) found')
      → (r : Result Reading Refusal) (blocks marks : List ℕ) → Reads (reading q answer found found') r blocks marks → Shows code c memory locks q found found' r blocks marks
  unfolding outcome shown_reading shown_bytes
  shows_held z e r blocks marks reads =
      let p : Reads (outcome 0 (Some (reading_held c q)) (over (bytes_held memory q) found) (over (marks_held locks q) found')) r blocks marks = rw e at reads in
      let t : eqb code 0 ≡ true = eq-eqb code 0 z in
      record { reading = rw t (read_ok r p.reading); blocks_left = rw t p.blocks_left; locks_left = rw t p.locks_left }

  shows_code : (code ≡ 0 → ⊥) → reading q answer found found' ≡ outcome 0 (Some (Error code)) found found'
      → (r : Result Reading Refusal) (blocks marks : List ℕ) → Reads (reading q answer found found') r blocks marks → Shows code c memory locks q found found' r blocks marks
  unfolding outcome shown_reading shown_bytes
  shows_code z e r blocks marks reads =
      let p : Reads (outcome 0 (Some (Error code)) found found') r blocks marks = rw e at reads in
      let t : eqb code 0 ≡ false = ne_eqb code 0 z in
      record { reading = rw t (read_ok r p.reading); blocks_left = rw t p.blocks_left; locks_left = rw t p.locks_left }

-- ---- of one request to one card

-- after a request the card is d, of the same shape, and memory and lock bytes have the lengths that they had
pub record After (c : Card) (memory locks : List ℕ) (d : Card) (m l : List ℕ) : Type 0 where
  pub kept : Kept c d
  pub same_memory : length m ≡ length memory
  pub same_locks : length l ≡ length locks

module _ {q : Request} {c : Card} {memory locks found : List ℕ} {d : Card} {m l : List ℕ} (fits : Fits c memory locks found q) (is : is_request q ≡ true)
    (after : After c memory locks d m l) (answer : List ℕ) where
  ready : Ready c memory locks
  ready = ready_of c memory locks found fits.accepted

  size : moves_blocks q ≡ true → q.size ≡ d.size
  size moves = fits.same_size moves ∙ sym after.kept.size

  stored : length m ≡ d.blocks * d.size
  stored = rw (after.kept.blocks, after.kept.size) (after.same_memory ∙ ready.stored)

  marks : length l ≡ d.blocks
  marks = rw after.kept.blocks (after.same_locks ∙ ready.marks)

  some : 1 ≤ d.blocks
  some = rw after.kept.blocks ready.some_blocks

  sized : 1 ≤ d.size
  sized = rw after.kept.size ready.some_size

  wide : d.uid < 2 ^ 64
  wide = rw after.kept.uid fits.card_uid

  pub held_read : code_of c locks q ≡ 0 → answer ≡ sealed (reply_bytes d m l (reply_to q)) → ReadAs q answer (code_of c locks q) d m l
  held_read z e found found' b k =
      shows_held (code_of c locks q) d m l q answer found found' z
      (rw e (success_read d m l q is size stored marks some sized wide found found' b k (inside_kept c d q after.kept (inside_of c locks q z))))

  pub done_read_back : code_of c locks q ≡ 0 → is_held q ≡ true → answer ≡ sealed (0x00 ∷ []) → ReadAs q answer (code_of c locks q) d m l
  done_read_back z h e found found' b k =
      shows_held (code_of c locks q) d m l q answer found found' z
      (rw (e, held_reading q h d, held_bytes q h m, held_marks q h l, over_none found, over_none found')
      (done_read d m l q is size stored marks some sized wide found found' b k (held_done q h)))

  pub code_read_back : (code_of c locks q ≡ 0 → ⊥) → answer ≡ sealed (0x01 ∷ code_of c locks q ∷ []) → ReadAs q answer (code_of c locks q) d m l
  code_read_back z e found found' b k =
      shows_code (code_of c locks q) d m l q answer found found' z
      (rw e (error_read d m l q is size stored marks some sized wide found found' b k (code_of c locks q)))
