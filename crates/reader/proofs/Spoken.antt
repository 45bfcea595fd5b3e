-- What a card says at an event that is served: nothing for silence, else its bytes with their check, which are cut out of the room by the length that is told.
-- By the tests of the definitions. Assumes nothing.
use mathlib.Core.Path.{◌≡◌, refl, sym, ◌∙◌}
use mathlib.Core.Bool.{Bool, true, false, false≢true}
use mathlib.Core.List.{List}
use Prim.Native.Nat.{ℕ, ◌+◌}
use native.Mathlib.Omega.{arith}
use borrow.Author.Tests.{eq-eqb, ne_eqb}
use lib.Dec.{eqb}
use lib.ListN.{length, take}
use Rattle.std.specs.Prelude.{Result}
use Rattle.refusals.specs.declared.Refusal.{Refusal}
use Rattle.lent.proofs.Over.{take_over}
use Rattle.crc.specs.Check.{sealed}
use Rattle.crc.proofs.Seal.{length_sealed}
use Rattle.card.specs.declared.Card.{Card}
use Rattle.card.specs.declared.Reply.{Reply}
use Rattle.card.specs.declared.Reply.TheVariants.{Silence, Error, Done, Present, Blocks, Status, Information}
use Rattle.card.specs.Mark.{marked}
use Rattle.commands.specs.Frame.{decided}
use Rattle.play.specs.declared.Served.{Served}
use Rattle.play.specs.Refusal.{refusal, Accepted}
use Rattle.play.specs.Answer.{reply_bytes}
use Rattle.play.specs.Events.{length_told, answered, Outcome, replied, event, carried_out, frame_event, mark_event, card_after, length_of, Leaves}

-- ---- events that are served

module _ (c : Card) (memory locks found : List ℕ) (accepted : Accepted c memory locks found) where
  served : (o : Outcome) → event c memory locks found o ≡ o
  unfolding event
  served o = rw (eq-eqb (refusal c (length memory) locks (length found)) 0 accepted)

  pub frame_met : (frame : List ℕ) → frame_event c frame memory locks found ≡ carried_out (decided c locks frame) frame memory locks found
  unfolding frame_event
  frame_met frame = served (carried_out (decided c locks frame) frame memory locks found)

  pub mark_met : mark_event c memory locks found ≡ replied (marked c).card memory locks (marked c).reply found
  unfolding mark_event
  mark_met = served (replied (marked c).card memory locks (marked c).reply found)

-- ---- what is said

-- whether a reply has bytes
unfoldable pub speaks : Reply → Bool
speaks Silence = false
speaks (Error code) = true
speaks Done = true
speaks Present = true
speaks (Blocks first n option) = true
speaks (Status first n) = true
speaks Information = true

some_bytes : (c : Card) (memory locks : List ℕ) (reply : Reply) → speaks reply ≡ true → length (reply_bytes c memory locks reply) ≡ 0 → ⊥
unfolding reply_bytes speaks
some_bytes c memory locks Silence e z = absurd (false≢true e)
some_bytes c memory locks (Error code) e z = omega arith
some_bytes c memory locks Done e z = omega arith
some_bytes c memory locks Present e z = omega arith
some_bytes c memory locks (Blocks first n option) e z = omega arith
some_bytes c memory locks (Status first n) e z = omega arith
some_bytes c memory locks Information e z = omega arith

module _ (c : Card) (memory locks found : List ℕ) where
  pub silence_told : (replied c memory locks Silence found).told ≡ 0
  unfolding replied length_told reply_bytes
  silence_told = refl

  pub reply_told : (reply : Reply) → speaks reply ≡ true → (replied c memory locks reply found).told ≡ length (reply_bytes c memory locks reply) + 2
  unfolding replied length_told
  reply_told reply e = rw (ne_eqb (length (reply_bytes c memory locks reply)) 0 (some_bytes c memory locks reply e))

  pub reply_said : (reply : Reply) → speaks reply ≡ true
      → take (replied c memory locks reply found).told (replied c memory locks reply found).answer ≡ sealed (reply_bytes c memory locks reply)
  unfolding answered replied
  reply_said reply e =
      let body : List ℕ = reply_bytes c memory locks reply in
      let long : length body + 2 ≡ length (sealed body) = sym (length_sealed body) in
      rw (reply_told reply e, ne_eqb (length body) 0 (some_bytes c memory locks reply e), long) (take_over (sealed body) found)

-- ---- what a promise allows of it

module _ {before : Card} (c : Card) (memory locks found : List ℕ) (reply : Reply) {r : Result Served Refusal} {m l a : List ℕ}
    (leaves : Leaves before (replied c memory locks reply found) r m l a) where
  pub told_some : speaks reply ≡ true → eqb (length_of r) 0 ≡ false
  told_some e = ne_eqb (length_of r) 0 (λ z. omega (arith, leaves.told, reply_told c memory locks found reply e))

  pub said : speaks reply ≡ true → take (length_of r) a ≡ sealed (reply_bytes (card_after before r) m l reply)
  unfolding replied
  said e = rw (leaves.told, leaves.answer_left, leaves.card, leaves.memory_left, leaves.locks_left) (reply_said c memory locks found reply e)

pub told_none : {before : Card} (c : Card) (memory locks found : List ℕ) {r : Result Served Refusal} {m l a : List ℕ} → Leaves before (replied c memory locks Silence found) r m l a
    → eqb (length_of r) 0 ≡ true
told_none c memory locks found {r} leaves = eq-eqb (length_of r) 0 (leaves.told ∙ silence_told c memory locks found)
