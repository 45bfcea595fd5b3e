-- A request made here and served by a card is read back as what the card holds: at once, or at the slot mark that releases its answer; and it is silent exactly if it
-- is not called or its answer is held. By the ways that the card's promise allows. Assumes nothing.
use mathlib.Core.Path.{◌≡◌, refl}
use mathlib.Core.Bool.{Bool, true, false, not, ◌||◌}
use mathlib.Core.List.{List}
use Prim.Native.Nat.{ℕ}
use native.Mathlib.Decide.{ℕ_discrete}
use lib.Dec.{eqb}
use lib.ListN.{take}
use Rattle.std.specs.Prelude.{Result}
use Rattle.refusals.specs.declared.Refusal.{Refusal}
use Rattle.card.specs.declared.Card.{Card}
use Rattle.card.specs.declared.Held.{Held}
use Rattle.card.specs.declared.Held.TheVariants.{Success, Code}
use Rattle.card.specs.declared.Reply.{Reply}
use Rattle.card.specs.declared.Reply.TheVariants as reply
use Rattle.card.specs.Record.{cleared, holding}
use Rattle.commands.specs.declared.Effect.TheVariants.{Leave}
use Rattle.play.specs.declared.Served.{Served}
use Rattle.play.specs.Refusal.{Accepted}
use Rattle.play.specs.Answer.{reply_bytes}
use Rattle.play.specs.Effects.{memory_after, locks_after}
use Rattle.play.specs.Events.{replied, mark_event, card_after, length_of, Leaves}
use Rattle.reader.specs.declared.Request.{Request}
use Rattle.reader.specs.Shown.{is_called, is_held, code_of, Does}
use Rattle.reader.specs.Exchange.{Fits, Sent, ReadAs, Exchange}
use Rattle.reader.proofs.Asked.{reply_to, effect_of, changed_by}
use Rattle.reader.proofs.Kept.{changed_kept, cleared_kept, holding_kept}
use Rattle.reader.proofs.Spoken.{speaks, told_some, said, told_none}
use Rattle.reader.proofs.Codes.{reply_speaks}
use Rattle.reader.proofs.Lengths.{make_served}
use Rattle.reader.proofs.ReadBack.{held_read, done_read_back, code_read_back}
use Rattle.reader.proofs.Does.{does_now, does_held}
use Rattle.reader.proofs.Ends.{mark_done, mark_code, Meets, Ends, not_called_ends, done_ends, done_held_ends, code_ends, code_held_ends, done_after, code_after}

module _ {q : Request} {written : List ℕ} {c : Card} {memory locks found : List ℕ} {r : Result Served Refusal} {m l a : List ℕ}
    (met : Meets q written c memory locks found r m l a) where
  -- ---- its answer, at once

  done_now : is_called c q ≡ true → code_of c locks q ≡ 0 → is_held q ≡ false → ReadAs q (take (length_of r) a) (code_of c locks q) (card_after c r) m l
  done_now h z n =
      let next : Card = changed_by q (cleared c) in
      let p : Ends met next (effect_of q) (reply_to q) = done_ends met h z n in
      held_read met.fits met.is (done_after met next (reply_to q) (changed_kept q c) z p) (take (length_of r) a) z (said next _ _ found (reply_to q) p (reply_speaks q))

  code_now : is_called c q ≡ true → (code_of c locks q ≡ 0 → ⊥) → is_held q ≡ false → ReadAs q (take (length_of r) a) (code_of c locks q) (card_after c r) m l
  unfolding memory_after locks_after reply_bytes speaks
  code_now h z n =
      let error : Reply = reply.Error (code_of c locks q) in
      let p : Ends met (cleared c) Leave error = code_ends met h z n in
      code_read_back met.fits met.is (code_after met (cleared c) error (cleared_kept c) p) (take (length_of r) a) z (said (cleared c) memory locks found error p refl)

  -- ---- and at the slot mark

  abbrev Released : Type 0
  Released =
      (room : List ℕ) → Accepted (card_after c r) m l room → (s : Result Served Refusal) (m' l' a' : List ℕ) → Leaves (card_after c r) (mark_event (card_after c r) m l room) s m' l' a'
      → (eqb (length_of s) 0 ≡ false) × ReadAs q (take (length_of s) a') (code_of c locks q) (card_after c r) m l

  done_later : is_called c q ≡ true → code_of c locks q ≡ 0 → is_held q ≡ true → Released
  unfolding replied
  done_later h z n room accepted s m' l' a' marks =
      let next : Card = changed_by q (cleared c) in
      let p : Ends met (holding Success next) (effect_of q) reply.Silence = done_held_ends met h z n in
      let after = done_after met (holding Success next) reply.Silence (holding_kept c next Success (changed_kept q c)) z p in
      let t = mark_done Success next m l room (rw p.card at accepted) (rw p.card at marks) refl in
      (t.0, done_read_back met.fits met.is after (take (length_of s) a') z n t.1)

  code_later : is_called c q ≡ true → (code_of c locks q ≡ 0 → ⊥) → is_held q ≡ true → Released
  unfolding replied
  code_later h z n room accepted s m' l' a' marks =
      let held : Held = Code (code_of c locks q) in
      let p : Ends met (holding held (cleared c)) Leave reply.Silence = code_held_ends met h z n in
      let after = code_after met (holding held (cleared c)) reply.Silence (holding_kept c (cleared c) held (cleared_kept c)) p in
      let t = mark_code held (cleared c) m l room (rw p.card at accepted) (rw p.card at marks) (code_of c locks q) refl in
      (t.0, code_read_back met.fits met.is after (take (length_of s) a') z t.1)

  -- ---- "answers at all"

  silence : (a : Bool) (b : Bool) → is_called c q ≡ a → is_held q ≡ b → eqb (length_of r) 0 ≡ (not a || b)
  unfolding speaks
  silence false b h n = told_none _ _ _ found (not_called_ends met h)
  silence true true h n = go (ℕ_discrete (code_of c locks q) 0)
    where
      go : Dec (code_of c locks q ≡ 0) → eqb (length_of r) 0 ≡ true
      go (yes z) = told_none _ _ _ found (done_held_ends met h z n)
      go (no z) = told_none _ _ _ found (code_held_ends met h z n)
  silence true false h n = go (ℕ_discrete (code_of c locks q) 0)
    where
      go : Dec (code_of c locks q ≡ 0) → eqb (length_of r) 0 ≡ false
      go (yes z) = told_some _ _ _ found (reply_to q) (done_ends met h z n) (reply_speaks q)
      go (no z) = told_some _ _ _ found (reply.Error (code_of c locks q)) (code_ends met h z n) refl

  -- ---- an effect that leaves all

  kept_by : (d : Card) (spoken : Reply) → Ends met d Leave spoken → (m ≡ memory) × (l ≡ locks)
  unfolding replied memory_after locks_after
  kept_by d spoken p = (p.memory_left, p.locks_left)

  pub exchanged : Exchange q written c memory locks r m l a
  exchanged =
      record {
        silent = silence (is_called c q) (is_held q) refl refl;
        read = λ h n. now h n (ℕ_discrete (code_of c locks q) 0);
        held = λ h n. later h n (ℕ_discrete (code_of c locks q) 0);
        does = λ h z. did h z (is_held q) refl;
        refused_leaves = λ h z. left h z (is_held q) refl;
        others_leave = λ h. kept_by _ _ (not_called_ends met h);
      }
    where
      did : is_called c q ≡ true → code_of c locks q ≡ 0 → (b : Bool) → is_held q ≡ b → Does q written c memory locks (card_after c r) m l
      did h z true n = does_held met z h n
      did h z false n = does_now met z h n

      left : is_called c q ≡ true → (code_of c locks q ≡ 0 → ⊥) → (b : Bool) → is_held q ≡ b → (m ≡ memory) × (l ≡ locks)
      left h z true n = kept_by _ _ (code_held_ends met h z n)
      left h z false n = kept_by _ _ (code_ends met h z n)

      now : is_called c q ≡ true → is_held q ≡ false → Dec (code_of c locks q ≡ 0) → ReadAs q (take (length_of r) a) (code_of c locks q) (card_after c r) m l
      now h n (yes z) = done_now h z n
      now h n (no z) = code_now h z n

      later : is_called c q ≡ true → is_held q ≡ true → Dec (code_of c locks q ≡ 0) → Released
      later h n (yes z) = done_later h z n
      later h n (no z) = code_later h z n

-- whatever `make` allows, and whatever the card's promise allows for it
pub sent_meets : (q : Request) (written : List ℕ) (c : Card) (memory locks found : List ℕ) → Fits c memory locks found q
    → (r : Result Served Refusal) (m l a : List ℕ) → Sent q written c memory locks found r m l a → Meets q written c memory locks found r m l a
sent_meets q written c memory locks found fits r m l a sent =
    let made = make_served q written sent.room sent.n sent.made sent.makes in
    record { fits = fits; is = made.0; of = made.1; leaves = rw made.2 at sent.leaves }

pub exchange : (q : Request) (written : List ℕ) (c : Card) (memory locks found : List ℕ) → Fits c memory locks found q
    → (r : Result Served Refusal) (memoryLeft locksLeft answer : List ℕ) → Sent q written c memory locks found r memoryLeft locksLeft answer
    → Exchange q written c memory locks r memoryLeft locksLeft answer
exchange q written c memory locks found fits r m l a sent = exchanged (sent_meets q written c memory locks found fits r m l a sent)
