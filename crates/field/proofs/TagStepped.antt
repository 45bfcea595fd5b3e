-- A tag that has heard stands at the walk's slot, and what it says is its message exactly if it is called.
-- By the two replies, silence and presence. Assumes nothing.
use mathlib.Core.Path.{◌≡◌, refl, sym, ap, ◌∙◌}
use mathlib.Core.Bool.{Bool, true, false, cond}
use Prim.Native.Nat.{ℕ, ◌≤◌}
use native.Mathlib.Omega.{arith}
use mathlib.Core.List.{List, [], ◌∷◌}
use lib.ListN.{length, take}
use Rattle.lent.specs.Lent.{over}
use Rattle.lent.proofs.Over.{take_over, length_over}
use Rattle.card.specs.declared.Card.{Card}
use Rattle.card.specs.declared.Reply.TheVariants.{Present}
use Rattle.card.specs.Inventory.{present}
use Rattle.play.specs.Answer.{presence, reply_bytes}
use Rattle.play.specs.Events.{length_told, answered, replied}
use Rattle.play.proofs.Answers.{length_presence}
use Rattle.play.proofs.EventWays.{told_length, told_silence, answered_bytes, answered_silence}
use Rattle.walk.specs.declared.Walk.{Walk}
use Rattle.walk.specs.Record.{whole_mask}
use Rattle.play.specs.Life.{Tag, tag_after}
use Rattle.field.specs.Field.{Obeys}
use Rattle.field.proofs.InTime.{in_step, calls, AtSlot}
use Rattle.field.proofs.Reply.{message, length_message}
use Rattle.field.proofs.InStep.{served_room, step_message}
use Rattle.field.proofs.TagHeard.{stepped}

module _ (c : Card) (memory locks found : List ℕ) where
  -- the message stands at the start of the room
  over_message : over (message c) found ≡ answered (reply_bytes c memory locks Present) found
  unfolding message reply_bytes
  over_message = answered_bytes (0x00 ∷ presence c) found (λ z. omega (arith, length_presence c))

  room_kept : (b : Bool) → 12 ≤ length found → length (answered (reply_bytes c memory locks (present b)) found) ≡ length found
  unfolding present reply_bytes
  room_kept true h = ap length (sym over_message) ∙ length_over (message c) found (omega (arith, length_message c))
  room_kept false h = ap length (sym (answered_silence [] found refl))

  said_length : (b : Bool) → length_told (reply_bytes c memory locks (present b)) ≡ cond b 12 0
  unfolding present reply_bytes
  said_length true = sym (told_length (0x00 ∷ presence c) found (λ z. omega (arith, length_presence c))) ∙ omega (arith, length_presence c)
  said_length false = sym (told_silence [] found refl)

  said_bytes : take 12 (answered (reply_bytes c memory locks Present) found) ≡ message c
  said_bytes =
      ap (take 12) (sym over_message)
      ∙ ap (λ (n : ℕ). take n (over (message c) found)) (sym (length_message c))
      ∙ take_over (message c) found

module _ (family : ℕ) (w : Walk) (t₀ : Tag) (found : List ℕ) where
  pub stepped_at : Obeys t₀ → length found ≡ length t₀.room
      → AtSlot family w.level (whole_mask w) w.slot t₀ (tag_after (stepped family w t₀ found))
  unfolding stepped replied tag_after
  stepped_at o e =
      let card : Card = in_step family w.level (whole_mask w) w.slot t₀.card in
      let least : 32 ≤ length t₀.room = served_room t₀.card (length t₀.memory) t₀.locks (length t₀.room) o.accepted in
      record {
        card = refl;
        memory = refl;
        locks = refl;
        room = room_kept card t₀.memory t₀.locks found (calls family w t₀.card) (omega arith) ∙ e;
      }

  pub stepped_told : (stepped family w t₀ found).told ≡ cond (calls family w t₀.card) 12 0
  unfolding stepped replied
  stepped_told = said_length (in_step family w.level (whole_mask w) w.slot t₀.card) t₀.memory t₀.locks found (calls family w t₀.card)

  pub stepped_bytes : calls family w t₀.card ≡ true → take 12 (stepped family w t₀ found).answer ≡ message t₀.card
  unfolding stepped replied present
  stepped_bytes e =
      rw e (said_bytes (in_step family w.level (whole_mask w) w.slot t₀.card) t₀.memory t₀.locks found
      ∙ step_message family w.level (whole_mask w) w.slot t₀.card)
