-- 21 made here and answered with success, then 20 of that block made here and answered: the data come back, and all other bytes are as before. By the exchange of each.
-- Assumes nothing.
use mathlib.Core.Path.{◌≡◌, refl, sym, ◌∙◌}
use mathlib.Core.Bool.{Bool, true, false, cond, not, ◌||◌, and-false, false≢true}
use mathlib.Core.List.{List, ◌++◌}
use Prim.Native.Nat.{ℕ, ◌+◌, ◌*◌, ◌≤◌, ◌<◌}
use native.Mathlib.Nat.{one-mul, mul-le-mul_right}
use native.Mathlib.Omega.{arith}
use borrow.Author.Tests.{eq-eqb, eqb-true, lt-leb}
use lib.Dec.{eqb}
use lib.ListN.{length, take, drop, set, length-append}
use lib.Seq.{take_at, drop_at, length-take-le, drop-append-le}
use Rattle.std.specs.Prelude.{Result}
use Rattle.refusals.specs.declared.Refusal.{Refusal}
use Rattle.lent.specs.Lent.{placed}
use Rattle.card.specs.declared.Card.{Card}
use Rattle.card.specs.declared.Held.TheVariants.{Free, Success}
use Rattle.card.specs.Record.{remade, cleared, holding}
use Rattle.card.specs.Mark.{released, marked}
use Rattle.play.specs.declared.Served.{Served}
use Rattle.play.specs.Refusal.{Accepted}
use Rattle.play.specs.Events.{replied, mark_event, card_after, Leaves}
use Rattle.reader.specs.declared.Request.{Request}
use Rattle.reader.specs.Request.{has_option, frame}
use Rattle.reader.specs.Shown.{is_called, is_held, mistakes_option, is_outside, relocks, writes_locked, code_of, blocks_held, reading_held, bytes_held, shown_reading, shown_bytes, Shows, memory_written, locks_set}
use Rattle.reader.specs.Exchange.{Fits, Sent, Exchange, Succeeds, ReadsBack, Written}
use Rattle.reader.specs.Exchange.Succeeds.{AtOnce, AtMark}
use Rattle.reader.proofs.Asked.{changed_by}
use Rattle.reader.proofs.Kept.{Kept, changed_kept, holding_kept}
use Rattle.reader.proofs.Ready.{ready_of}
use Rattle.reader.proofs.Codes.{inside_of, first_inside}
use Rattle.reader.proofs.Spoken.{mark_met}
use Rattle.reader.proofs.Stored.{data_long, moves_20, moves_21, stored_nothing}
use Rattle.reader.proofs.Ends.{Meets, done_ends, done_held_ends}
use Rattle.reader.proofs.Exchange.{exchanged, sent_meets}
use Rattle.reader.proofs.Successes.{went_at_once, went_at_mark}

-- ---- bytes placed, cut out again

pub placed_back : (at n : ℕ) (s e : List ℕ) → length s ≡ n → at ≤ length e → take n (drop at (placed at s e)) ≡ s
unfolding placed
placed_back at n s e long inside =
    let before : length (take at e) ≡ at = length-take-le at e inside in
    let rest : List ℕ = drop (at + length s) e in
    let within : at ≤ length (take at e ++ s) = rw (length-append (take at e) s) (omega (arith, before)) in
    rw (drop-append-le at (take at e ++ s) rest within, drop_at (take at e) s at before) (take_at s rest n long)

-- ---- 20

no_option_fault : (q : Request) → q.command ≡ 0x20 → mistakes_option q ≡ false
unfolding mistakes_option
no_option_fault q is = rw is (and-false (has_option _))

inside_20 : (c : Card) (q : Request) → q.command ≡ 0x20 → q.first < c.blocks → is_outside c q ≡ false
unfolding is_outside
inside_20 c q is inside = rw (eq-eqb q.command 0x20 is) (lt-leb c.blocks q.first inside)

no_relock : (c : Card) (locks : List ℕ) (q : Request) → q.command ≡ 0x20 → relocks c locks q ≡ false
unfolding relocks
no_relock c locks q is = rw is

no_locked_write : (c : Card) (locks : List ℕ) (q : Request) → q.command ≡ 0x20 → writes_locked c locks q ≡ false
unfolding writes_locked
no_locked_write c locks q is = rw is

no_code : (c : Card) (locks : List ℕ) (q : Request) → q.command ≡ 0x20 → q.first < c.blocks → code_of c locks q ≡ 0
unfolding code_of
no_code c locks q is inside = rw (no_option_fault q is, inside_20 c q is inside, no_relock c locks q is, no_locked_write c locks q is)

answers_of : (x y : Bool) → (not x || y) ≡ false → (x ≡ true) × (y ≡ false)
answers_of true true h = absurd (false≢true (sym h))
answers_of true false h = (refl, refl)
answers_of false y h = absurd (false≢true (sym h))

-- ---- the memory after it holds the data: then 20 shows them

module _ (w : Request) (written : List ℕ) (c : Card) (memory : List ℕ) (long : length written ≡ w.size) (size : w.size ≡ c.size)
    (stored : length memory ≡ c.blocks * c.size) (inside : w.first < c.blocks) (next : Card) (kept : Kept c next) (m l : List ℕ)
    (holds : m ≡ placed (w.first * w.size) written memory) where
  in_memory : w.first * w.size ≤ length memory
  in_memory =
      let first : w.first ≤ c.blocks = omega (arith, inside) in
      rw (stored, ← size) (mul-le-mul_right w.size first)

  held_back : (q : Request) → q.first ≡ w.first → q.size ≡ w.size → blocks_held m q 1 ≡ written
  unfolding blocks_held
  held_back q first same = rw (first, same, one-mul, holds) (placed_back (w.first * w.size) w.size written memory long in_memory)

  pub reads_back : ReadsBack w written next m l
  unfolding replied shown_reading reading_held shown_bytes bytes_held
  reads_back q unused found fits is first r m' l' a sent some found' found'' room room' t b k reads =
      let met : Meets q unused next m l found r m' l' a = sent_meets q unused next m l found fits r m' l' a sent in
      let same : q.size ≡ w.size = fits.same_size (moves_20 q is) ∙ kept.size ∙ sym size in
      let e : Exchange q unused next m l r m' l' a = exchanged met in
      let answers = answers_of (is_called next q) (is_held q) (sym e.silent ∙ some) in
      let z : code_of next l q ≡ 0 = no_code next l q is (rw (first, kept.blocks) inside) in
      let p = done_ends met answers.0 z answers.1 in
      let twenty : eqb q.command 0x20 ≡ true = eq-eqb q.command 0x20 is in
      let kept_memory : m' ≡ m = p.memory_left ∙ stored_nothing q (changed_by q (cleared next)) (frame q unused) m (rw is) in
      let shows : Shows (code_of next l q) (card_after next r) m' l' q found' found'' t b k = e.read answers.0 answers.1 found' found'' room room' t b k reads in (
        shows.reading ∙ rw (eq-eqb (code_of next l q) 0 z, twenty),
        shows.blocks_left ∙ rw (eq-eqb (code_of next l q) 0 z, twenty, kept_memory, held_back q first same),
      )

-- ---- 21

module _ {w : Request} {written : List ℕ} {c : Card} {memory locks found : List ℕ} {r : Result Served Refusal} {m l a : List ℕ}
    (met : Meets w written c memory locks found r m l a) (is : w.command ≡ 0x21) (called : is_called c w ≡ true) (z : code_of c locks w ≡ 0) where
  -- what it leaves, and any card of this shape after it
  written_of : (next : Card) → Kept c next → Written w written memory locks next m l
  unfolding memory_written locks_set
  written_of next kept =
      let ready = ready_of c memory locks found met.fits.accepted in
      let does = (exchanged met).does called z in
      let holds : m ≡ placed (w.first * w.size) written memory = does.memory_written ∙ rw (eq-eqb w.command 0x21 is) in
      record {
        stored = holds;
        locks_kept = does.locks_set ∙ not_22 (eqb w.command 0x22) refl;
        comes_back =
            reads_back w written c memory (data_long w (length written) is met.of) (met.fits.same_size (moves_21 w is)) ready.stored
            (first_inside c w is (inside_of c locks w z)) next kept m l holds;
      }
    where
      not_22 : (b : Bool) → eqb w.command 0x22 ≡ b → cond b (set locks w.first 1) locks ≡ locks
      not_22 true e =
          let other : w.command ≡ 0x22 = eqb-true w.command 0x22 e in
          absurd (omega (arith, is))
      not_22 false e = refl

  written_at_once : is_held w ≡ false → Written w written memory locks (card_after c r) m l
  unfolding replied
  written_at_once n = written_of (card_after c r) (rw (done_ends met called z n).card (changed_kept w c))

  written_at_mark : is_held w ≡ true → (room : List ℕ) → Accepted (card_after c r) m l room
      → (s : Result Served Refusal) (m' l' a' : List ℕ) → Leaves (card_after c r) (mark_event (card_after c r) m l room) s m' l' a' → Written w written memory locks (card_after (card_after c r) s) m' l'
  unfolding replied marked released holding remade
  written_at_mark n room accepted s m' l' a' leaves =
      let next : Card = changed_by w (cleared c) in
      let held : Card = holding Success next in
      let kept : Kept c held = holding_kept c next Success (changed_kept w c) in
      let p = rw (mark_met (card_after c r) m l room accepted, (done_held_ends met called z n).card) at leaves in
      rw (p.memory_left, p.locks_left) (written_of (card_after (card_after c r) s) (rw ((done_held_ends met called z n).card, p.card) (holding_kept c held Free kept)))

pub written_then_read : (w : Request) (written : List ℕ) (c : Card) (memory locks found : List ℕ) → Fits c memory locks found w → w.command ≡ 0x21
    → (r : Result Served Refusal) (memoryLeft locksLeft answer : List ℕ) → Sent w written c memory locks found r memoryLeft locksLeft answer
    → (next : Card) (memoryNext locksNext : List ℕ) → Succeeds w c r memoryLeft locksLeft answer next memoryNext locksNext
    → Written w written memory locks next memoryNext locksNext
written_then_read w written c memory locks found fits is r m l a sent = go
  where
    met : Meets w written c memory locks found r m l a
    met = sent_meets w written c memory locks found fits r m l a sent

    go : (next : Card) (m' l' : List ℕ) → Succeeds w c r m l a next m' l' → Written w written memory locks next m' l'
    go next m' l' (AtOnce found found' t b k reads e) =
        let went = went_at_once met is found found' t b k reads e in
        written_at_once met is went.0.0 went.0.1 went.1
    go next m' l' (AtMark room accepted s m'' l'' a'' leaves found found' t b k reads e) =
        let went = went_at_mark met is room accepted s m'' l'' a'' leaves found found' t b k reads e in
        written_at_mark met is went.0.0 went.0.1 went.1 room accepted s m'' l'' a'' leaves
