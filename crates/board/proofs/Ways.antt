-- The ways out of the three calls: refused, or served; a record of another length reads as no card, which number 1 refuses.
-- By the test of each. Assumes nothing.
use mathlib.Core.Path.{◌≡◌, refl, ap, ◌∙◌}
use mathlib.Core.Bool.{Bool, true, false, cond}
use mathlib.Core.List.{List, []}
use Prim.Native.Nat.{ℕ}
use native.Mathlib.Omega.{arith}
use borrow.Author.Tests.{ne_eqb}
use lib.Dec.{eqb}
use lib.IntN.{ℤ, pos}
use lib.ListN.{length}
use Rattle.std.specs.Prelude.{Result, Ok, Err}
use Rattle.lent.specs.Lent.{refused}
use Rattle.refusals.specs.declared.Refusal.{Refusal}
use Rattle.refusals.specs.Number.{number, number_of}
use Rattle.refusals.proofs.Numbers.{number_is_some}
use Rattle.frames.specs.Field.{field_of, field_at}
use Rattle.card.specs.declared.Card.{Card}
use Rattle.card.specs.Record.{shape_fits, is_accepted}
use Rattle.record.specs.Record.{record_length, card_of, card_read, record_of, write_leaves}
use Rattle.play.specs.declared.Served.{Served}
use Rattle.play.specs.Refusal.{refusal}
use Rattle.play.specs.Events.{Outcome, card_after, length_of, Leaves, unserved, event, frame_event, mark_event, off_event}
use Rattle.board.specs.Calls.{back_of, bytes_after, settled, called, frame_call, mark_call, off_call, Gives}
use Rattle.board.specs.Steps.{written, Settles}

none_is_one : ◌≡◌ {A = ℕ} 0 1 → ⊥
none_is_one same = omega arith

-- a refusal leaves the record
stays : (e : Refusal) (c : Card) (bytes : List ℕ) → bytes ≡ bytes_after (number e) c bytes
unfolding bytes_after
stays e c bytes = rw (ne_eqb (number e) 0 (number_is_some e))

module _ (found : List ℕ) where
  pub settles_refused : (e : Refusal) {r : ℤ} → r ≡ refused (number e) → Settles (Err e) found r found
  unfolding back_of written number_of
  settles_refused e p = record { back = rw (ne_eqb (number e) 0 (number_is_some e)) p; bytes_left = refl }

  pub settles_served : (s : Served) {left : List ℕ} → left ≡ write_leaves s.card found → Settles (Ok s) found (pos s.length) left
  unfolding back_of written number_of length_of
  settles_served s e = record { back = refl; bytes_left = e }

-- no bytes read as a card of no blocks
pub no_card_refused : (memory locks found : List ℕ) (o : Outcome) → event (card_of []) memory locks found o ≡ unserved (card_of []) memory locks found 1
unfolding event refusal is_accepted shape_fits card_of field_at field_of
no_card_refused memory locks found o = refl

module _ (bytes memory locks found : List ℕ) (o : Card → Outcome) (refuses : o (card_of []) ≡ unserved (card_of []) memory locks found 1) where
  gives_settled : {s : Result Served Refusal} {r : ℤ} {left m l a : List ℕ} → Leaves (card_read bytes) (o (card_read bytes)) s m l a → Settles s bytes r left
      → Gives (called bytes memory locks found (o (card_of bytes))) r left m l a
  unfolding called card_read write_leaves written settled back_of bytes_after unserved number_of card_after length_of
  gives_settled {s = Ok v} {r} {left} {m} {l} {a} p q = go (eqb (length bytes) record_length) p q.back q.bytes_left
    where
      go : (b : Bool) → Leaves (cond b (card_of bytes) (card_of [])) (o (cond b (card_of bytes) (card_of []))) (Ok v) m l a
          → r ≡ pos v.length → left ≡ cond b (record_of v.card bytes) bytes
          → Gives (cond b (settled (o (card_of bytes)) bytes) (record { back = refused 1; bytes = bytes; memory = memory; locks = locks; answer = found })) r left m l a
      go true p e f = record {
        back = e ∙ (λ i. back_of (p.number i) (p.told i));
        bytes_left = f ∙ (λ i. bytes_after (p.number i) (p.card i) bytes);
        memory_left = p.memory_left;
        locks_left = p.locks_left;
        answer_left = p.answer_left;
      }
      go false p e f = absurd (none_is_one (p.number ∙ ap (λ (u : Outcome). u.number) refuses))
  gives_settled {s = Err why} {r} {left} {m} {l} {a} p q = go (eqb (length bytes) record_length) p q.back q.bytes_left
    where
      go : (b : Bool) → Leaves (cond b (card_of bytes) (card_of [])) (o (cond b (card_of bytes) (card_of []))) (Err why) m l a
          → r ≡ back_of (number why) 0 → left ≡ bytes
          → Gives (cond b (settled (o (card_of bytes)) bytes) (record { back = refused 1; bytes = bytes; memory = memory; locks = locks; answer = found })) r left m l a
      go true p e f = record {
        back = e ∙ (λ i. back_of (p.number i) (p.told i));
        bytes_left = f ∙ stays why (card_of bytes) bytes ∙ (λ i. bytes_after (p.number i) (p.card i) bytes);
        memory_left = p.memory_left;
        locks_left = p.locks_left;
        answer_left = p.answer_left;
      }
      go false p e f =
          let one : number why ≡ 1 = p.number ∙ ap (λ (u : Outcome). u.number) refuses in
          record {
            back = e ∙ ap (λ (n : ℕ). back_of n 0) one;
            bytes_left = f;
            memory_left = p.memory_left ∙ ap (λ (u : Outcome). u.memory) refuses;
            locks_left = p.locks_left ∙ ap (λ (u : Outcome). u.locks) refuses;
            answer_left = p.answer_left ∙ ap (λ (u : Outcome). u.answer) refuses;
          }

module _ (bytes memory locks found : List ℕ) {s : Result Served Refusal} {r : ℤ} {left m l a : List ℕ} where
  pub gives_frame : (frame : List ℕ) → Leaves (card_read bytes) (frame_event (card_read bytes) frame memory locks found) s m l a → Settles s bytes r left
      → Gives (frame_call bytes frame memory locks found) r left m l a
  unfolding frame_call frame_event
  gives_frame frame = gives_settled bytes memory locks found (λ (c : Card). frame_event c frame memory locks found) (no_card_refused memory locks found _)

  pub gives_mark : Leaves (card_read bytes) (mark_event (card_read bytes) memory locks found) s m l a → Settles s bytes r left
      → Gives (mark_call bytes memory locks found) r left m l a
  unfolding mark_call mark_event
  gives_mark = gives_settled bytes memory locks found (λ (c : Card). mark_event c memory locks found) (no_card_refused memory locks found _)

  pub gives_off : Leaves (card_read bytes) (off_event (card_read bytes) memory locks found) s m l a → Settles s bytes r left
      → Gives (off_call bytes memory locks found) r left m l a
  unfolding off_call off_event
  gives_off = gives_settled bytes memory locks found (λ (c : Card). off_event c memory locks found) (no_card_refused memory locks found _)
