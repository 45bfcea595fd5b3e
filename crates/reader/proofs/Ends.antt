-- What the card's promise allows after a frame that was made here, way by way: not called, done or with a code, at once or held; and after the slot mark that releases what
-- is held. By what the card's rules decide. Assumes nothing.
use mathlib.Core.Path.{◌≡◌, refl, ap, ◌∙◌}
use mathlib.Core.Bool.{true, false}
use mathlib.Core.List.{List, [], ◌∷◌}
use Prim.Native.Nat.{ℕ}
use borrow.Author.Tests.{eq-eqb, ne_eqb}
use lib.Dec.{eqb}
use lib.ListN.{length, take}
use Rattle.std.specs.Prelude.{Result}
use Rattle.refusals.specs.declared.Refusal.{Refusal}
use Rattle.crc.specs.Check.{sealed}
use Rattle.card.specs.declared.Card.{Card}
use Rattle.card.specs.declared.Held.{Held}
use Rattle.card.specs.declared.Held.TheVariants.{Success, Code}
use Rattle.card.specs.declared.Reply.{Reply}
use Rattle.card.specs.declared.Reply.TheVariants as reply
use Rattle.card.specs.Record.{remade, cleared, holding}
use Rattle.card.specs.Mark.{released, marked}
use Rattle.commands.specs.declared.Effect.{Effect}
use Rattle.commands.specs.declared.Effect.TheVariants.{Leave}
use Rattle.commands.specs.Request.{failed}
use Rattle.commands.specs.Frame.{decided}
use Rattle.play.specs.declared.Served.{Served}
use Rattle.play.specs.Refusal.{Accepted}
use Rattle.play.specs.Answer.{reply_bytes}
use Rattle.play.specs.Effects.{memory_after, locks_after}
use Rattle.play.specs.Events.{replied, carried_out, frame_event, mark_event, card_after, length_of, Leaves}
use Rattle.reader.specs.declared.Request.{Request}
use Rattle.reader.specs.Request.{is_request, data_fits, frame}
use Rattle.reader.specs.Shown.{is_called, is_held, code_of}
use Rattle.reader.specs.Exchange.{Fits}
use Rattle.reader.proofs.Asked.{reply_to, effect_of, changed_by, finished, deed_of}
use Rattle.reader.proofs.Kept.{Kept}
use Rattle.reader.proofs.Ready.{Ready, ready_of}
use Rattle.reader.proofs.ReadBack.{After}
use Rattle.reader.proofs.Spoken.{frame_met, mark_met, speaks, told_some, said}
use Rattle.reader.proofs.Codes.{inside_of}
use Rattle.reader.proofs.Decided.{decided_called, decided_not_called, data_place}
use Rattle.reader.proofs.Stored.{length_memory, length_locks}

-- ---- the slot mark

module _ (h : Held) (next : Card) (m l : List ℕ) (room : List ℕ) (accepted : Accepted (holding h next) m l room) {s : Result Served Refusal} {m' l' a' : List ℕ}
    (leaves : Leaves (holding h next) (mark_event (holding h next) m l room) s m' l' a') where
  pub mark_done : h ≡ Success → (eqb (length_of s) 0 ≡ false) × (take (length_of s) a' ≡ sealed (0x00 ∷ []))
  unfolding marked released holding remade reply_bytes speaks
  mark_done e =
      let p = rw (mark_met (holding h next) m l room accepted, e) at leaves in
      (told_some _ m l room reply.Done p refl, said _ m l room reply.Done p refl)

  pub mark_code : (code : ℕ) → h ≡ Code code → (eqb (length_of s) 0 ≡ false) × (take (length_of s) a' ≡ sealed (0x01 ∷ code ∷ []))
  unfolding marked released holding remade reply_bytes speaks
  mark_code code e =
      let p = rw (mark_met (holding h next) m l room accepted, e) at leaves in
      (told_some _ m l room (reply.Error code) p refl, said _ m l room (reply.Error code) p refl)

-- ---- the frame

-- a request that was made, and what the card's promise allows for it
pub record Meets (q : Request) (written : List ℕ) (c : Card) (memory locks found : List ℕ) (r : Result Served Refusal) (m l a : List ℕ) : Type 0 where
  pub fits : Fits c memory locks found q
  pub is : is_request q ≡ true
  pub of : data_fits q (length written) ≡ true
  pub leaves : Leaves c (frame_event c (frame q written) memory locks found) r m l a

module _ {q : Request} {written : List ℕ} {c : Card} {memory locks found : List ℕ} {r : Result Served Refusal} {m l a : List ℕ}
    (met : Meets q written c memory locks found r m l a) where
  served : Leaves c (carried_out (decided c locks (frame q written)) (frame q written) memory locks found) r m l a
  served = rw (frame_met c memory locks found met.fits.accepted (frame q written)) at met.leaves

  -- whatever was decided, in parts
  abbrev pub Ends : Card → Effect → Reply → Type 0
  Ends d effect spoken = Leaves c (replied d (memory_after d (frame q written) memory effect) (locks_after locks effect) spoken found) r m l a

  pub not_called_ends : is_called c q ≡ false → Ends (decided c locks (frame q written)).card Leave reply.Silence
  unfolding carried_out
  not_called_ends h =
      let p = decided_not_called c locks q written met.is met.of met.fits.same_size met.fits.asked_uid h in
      rw (p.0, p.1) at served

  called : is_called c q ≡ true → Leaves c (carried_out (deed_of c locks q) (frame q written) memory locks found) r m l a
  called h = rw (decided_called c locks q written met.is met.of met.fits.same_size met.fits.asked_uid h) at served

  pub done_ends : is_called c q ≡ true → code_of c locks q ≡ 0 → is_held q ≡ false → Ends (changed_by q (cleared c)) (effect_of q) (reply_to q)
  unfolding carried_out deed_of finished
  done_ends h z n = rw (eq-eqb (code_of c locks q) 0 z, n) at (called h)

  pub done_held_ends : is_called c q ≡ true → code_of c locks q ≡ 0 → is_held q ≡ true
      → Ends (holding Success (changed_by q (cleared c))) (effect_of q) reply.Silence
  unfolding carried_out deed_of finished
  done_held_ends h z n = rw (eq-eqb (code_of c locks q) 0 z, n) at (called h)

  pub code_ends : is_called c q ≡ true → (code_of c locks q ≡ 0 → ⊥) → is_held q ≡ false → Ends (cleared c) Leave (reply.Error (code_of c locks q))
  unfolding carried_out deed_of failed
  code_ends h z n = rw (ne_eqb (code_of c locks q) 0 z, n) at (called h)

  pub code_held_ends : is_called c q ≡ true → (code_of c locks q ≡ 0 → ⊥) → is_held q ≡ true
      → Ends (holding (Code (code_of c locks q)) (cleared c)) Leave reply.Silence
  unfolding carried_out deed_of failed
  code_held_ends h z n = rw (ne_eqb (code_of c locks q) 0 z, n) at (called h)

  -- ---- what it leaves

  pub done_after : (d : Card) (spoken : Reply) → Kept c d → code_of c locks q ≡ 0 → Ends d (effect_of q) spoken → After c memory locks (card_after c r) m l
  unfolding replied
  done_after d spoken kept z p =
      let ready : Ready c memory locks = ready_of c memory locks found met.fits.accepted in
      record {
        kept = rw p.card kept;
        same_memory =
            ap length p.memory_left
            ∙ length_memory q written c d memory locks ready met.fits.same_size kept (data_place q written met.is met.of) met.of (inside_of c locks q z);
        same_locks = ap length p.locks_left ∙ length_locks q locks;
      }

  pub code_after : (d : Card) (spoken : Reply) → Kept c d → Ends d Leave spoken → After c memory locks (card_after c r) m l
  unfolding replied memory_after locks_after
  code_after d spoken kept p = record { kept = rw p.card kept; same_memory = ap length p.memory_left; same_locks = ap length p.locks_left }
