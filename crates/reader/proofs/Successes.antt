-- When 21 is answered with success, at once or at a slot mark: then it was called and found no fault. By what any other answer is read as. Assumes nothing.
use mathlib.Core.Path.{◌≡◌, refl, sym, ap, ◌∙◌}
use mathlib.Core.Bool.{Bool, true, false, cond, ◌&&◌, false≢true}
use mathlib.Core.List.{List, []}
use Prim.Native.Nat.{ℕ}
use native.Mathlib.Decide.{ℕ_discrete}
use native.Mathlib.Omega.{arith}
use borrow.Author.Tests.{ne_eqb, eqb-true}
use lib.Dec.{leb, eqb}
use lib.ListN.{length, take}
use Rattle.std.specs.Prelude.{Option, Some, None, Result, Ok}
use Rattle.std.specs.Result.{result_ok}
use Rattle.refusals.specs.declared.Refusal.{Refusal}
use Rattle.frames.specs.Frame.{shortest_answer}
use Rattle.card.specs.declared.Card.{Card}
use Rattle.card.specs.Record.{cleared}
use Rattle.play.specs.declared.Served.{Served}
use Rattle.play.specs.Refusal.{Accepted}
use Rattle.play.specs.Events.{replied, mark_event, card_after, length_of, Leaves}
use Rattle.reader.specs.declared.Request.{Request}
use Rattle.reader.specs.declared.Reading.{Reading}
use Rattle.reader.specs.declared.Reading.TheVariants.{Error, Done}
use Rattle.reader.specs.Request.{is_request}
use Rattle.reader.specs.Reading.{reads_blocks, block_bytes, lock_bytes, is_answer, read_refusal, outcome, reading, Reads, shows_data}
use Rattle.reader.specs.Shown.{is_called, is_held, code_of, shown_reading, Shows}
use Rattle.reader.specs.Exchange.{ReadAs, Exchange}
use Rattle.reader.proofs.Freed.{Freed, cleared_freed, changed_freed, mark_silent}
use Rattle.reader.proofs.Decided.{decided_not_called_free}
use Rattle.reader.proofs.Ends.{Meets, not_called_ends, done_ends, code_ends}
use Rattle.reader.proofs.Exchange.{exchanged}

-- ---- silence is not read

no_answer : (q : Request) → is_answer q [] ≡ false
unfolding is_answer shortest_answer
no_answer q = refl

silence_refused : (q : Request) (blocks locks : ℕ) → read_refusal q [] blocks locks ≡ 0 → ⊥
unfolding read_refusal
silence_refused q blocks locks = rw (no_answer q) (go (is_request q) (leb (block_bytes q) blocks && leb (lock_bytes q) locks))
  where
    go : (a b : Bool) → ◌≡◌ {A = ℕ} (cond a (cond b 11 8) 7) 0 → ⊥
    go true true h = omega arith
    go true false h = omega arith
    go false b h = omega arith

pub silence_read : (q : Request) (blocks locks : List ℕ) → (reading q [] blocks locks).reading ≡ None
unfolding reading outcome
silence_read q blocks locks = rw (ne_eqb (read_refusal q [] (length blocks) (length locks)) 0 (silence_refused q (length blocks) (length locks)))

done_not : (r : Option Reading) → shows_data r ≡ false → r ≡ Some Done → ⊥
unfolding shows_data
done_not r h e = false≢true (sym h ∙ ap shows_data e)

-- an answer of no bytes is not success
silent_no_success : (q : Request) (n : ℕ) (a found found' : List ℕ) (t : Result Reading Refusal) (b l : List ℕ) → eqb n 0 ≡ true
    → Reads (reading q (take n a) found found') t b l → t ≡ Ok Done → ⊥
unfolding shows_data
silent_no_success q n a found found' t b l z reads e =
    let none : take n a ≡ [] = ap (λ (k : ℕ). take k a) (eqb-true n 0 z) in
    let p : Reads (reading q [] found found') t b l = rw none at reads in
    done_not (result_ok t) (ap shows_data (p.reading ∙ silence_read q found found')) (ap result_ok e)

-- a code is not success
code_no_success : (q : Request) (code : ℕ) (c : Card) → (code ≡ 0 → ⊥) → shown_reading code c q ≡ Done → ⊥
unfolding shown_reading shows_data
code_no_success q code c z e = done_not (Some (Error code)) refl (ap Some (rw (ne_eqb code 0 z) at e))

-- ---- 21

no_room_asked : (q : Request) → q.command ≡ 0x21 → (block_bytes q ≡ 0) × (lock_bytes q ≡ 0)
unfolding block_bytes lock_bytes reads_blocks
no_room_asked q is = (rw is, rw is)

read_success : (q : Request) (answer : List ℕ) (code : ℕ) (c : Card) (m l : List ℕ) → q.command ≡ 0x21 → ReadAs q answer code c m l
    → (found found' : List ℕ) (t : Result Reading Refusal) (b k : List ℕ) → Reads (reading q answer found found') t b k → t ≡ Ok Done → code ≡ 0
read_success q answer code c m l is read found found' t b k reads e =
    let none = no_room_asked q is in
    let shows : Shows code c m l q found found' t b k = read found found' (omega (arith, none.0)) (omega (arith, none.1)) t b k reads in
    go (ℕ_discrete code 0) (cc (shows.reading, e))
  where
    go : Dec (code ≡ 0) → shown_reading code c q ≡ Done → code ≡ 0
    go (yes z) h = z
    go (no z) h = absurd (code_no_success q code c z h)

module _ {q : Request} {written : List ℕ} {c : Card} {memory locks found : List ℕ} {r : Result Served Refusal} {m l a : List ℕ}
    (met : Meets q written c memory locks found r m l a) (is : q.command ≡ 0x21) where
  exchanges : Exchange q written c memory locks r m l a
  exchanges = exchanged met

  -- it was called, and found no fault
  abbrev pub Went : Type 0
  Went = (is_called c q ≡ true) × (code_of c locks q ≡ 0)

  pub went_at_once : (found found' : List ℕ) (t : Result Reading Refusal) (b k : List ℕ) → Reads (reading q (take (length_of r) a) found found') t b k → t ≡ Ok Done
      → Went × (is_held q ≡ false)
  went_at_once found found' t b k reads e = go (is_called c q) (is_held q) refl refl
    where
      go : (x y : Bool) → is_called c q ≡ x → is_held q ≡ y → Went × (is_held q ≡ false)
      go true false h n = ((h, read_success q _ (code_of c locks q) (card_after c r) m l is (exchanges.read h n) found found' t b k reads e), n)
      go true true h n = absurd (silent_no_success q (length_of r) a found found' t b k (exchanges.silent ∙ rw (h, n)) reads e)
      go false y h n = absurd (silent_no_success q (length_of r) a found found' t b k (exchanges.silent ∙ rw h) reads e)

  -- a card that is not called, or that has answered, holds nothing
  not_called_freed : is_called c q ≡ false → Freed (card_after c r)
  unfolding replied
  not_called_freed h =
      rw (not_called_ends met h).card
      (decided_not_called_free c locks q written met.is met.of met.fits.same_size met.fits.asked_uid h)

  answered_freed : is_called c q ≡ true → is_held q ≡ false → Freed (card_after c r)
  unfolding replied
  answered_freed h n = go (ℕ_discrete (code_of c locks q) 0)
    where
      go : Dec (code_of c locks q ≡ 0) → Freed (card_after c r)
      go (yes z) = rw (done_ends met h z n).card (changed_freed q (cleared c) (cleared_freed c))
      go (no z) = rw (code_ends met h z n).card (cleared_freed c)

  pub went_at_mark : (room : List ℕ) → Accepted (card_after c r) m l room → (s : Result Served Refusal) (m' l' a' : List ℕ) → Leaves (card_after c r) (mark_event (card_after c r) m l room) s m' l' a'
      → (found found' : List ℕ) (t : Result Reading Refusal) (b k : List ℕ) → Reads (reading q (take (length_of s) a') found found') t b k → t ≡ Ok Done
      → Went × (is_held q ≡ true)
  went_at_mark room accepted s m' l' a' leaves found found' t b k reads e = go (is_called c q) (is_held q) refl refl
    where
      silent : Freed (card_after c r) → ⊥
      silent p = silent_no_success q (length_of s) a' found found' t b k (mark_silent (card_after c r) m l room accepted p leaves) reads e

      go : (x y : Bool) → is_called c q ≡ x → is_held q ≡ y → Went × (is_held q ≡ true)
      go true true h n =
          ((h, read_success q _ (code_of c locks q) (card_after c r) m l is (exchanges.held h n room accepted s m' l' a' leaves).1 found found' t b k reads e), n)
      go true false h n = absurd (silent (answered_freed h n))
      go false y h n = absurd (silent (not_called_freed h))
