-- 01, The card: the three events, each with its refusals, what it makes of the record and of every lent byte, and its answer.
use Rattle.std.specs.Prelude.{ℕ, ◌+◌, cond, List, ◌≡◌, eqb, length, Result, Ok, Err}
use Rattle.lent.specs.Lent.{over}
use Rattle.refusals.specs.declared.Refusal.{Refusal}
use Rattle.refusals.specs.Number.{number_of}
use Rattle.crc.specs.Check.{sealed}
use Rattle.card.specs.declared.Card.{Card}
use Rattle.commands.specs.declared.Deed.{Deed}
use Rattle.card.specs.declared.Reply.{Reply}
use Rattle.card.specs.declared.Reply.TheVariants.{Silence}
use Rattle.card.specs.Record.{powered_off}
use Rattle.card.specs.Mark.{marked}
use Rattle.commands.specs.Frame.{decided}
use Rattle.play.specs.declared.Served.{Served}
use Rattle.play.specs.Refusal.{refusal, Accepted}
use Rattle.play.specs.Answer.{reply_bytes}
use Rattle.play.specs.Effects.{memory_after, locks_after}

-- the answer's length with its check, 0 for silence
unfoldable pub length_told : List ℕ → ℕ
length_told body = cond (eqb (length body) 0) 0 (length body + 2)

-- "Silence leaves the answer buffer as found.": else the answer with its check, and the bytes past it as found
unfoldable pub answered : List ℕ → List ℕ → List ℕ
answered body found = cond (eqb (length body) 0) found (over (sealed body) found)

-- all that a call leaves behind: number is the refusal, 0 where it is served, and told the answer's length
pub record Outcome : Type 0 where
  pub card : Card
  pub memory : List ℕ
  pub locks : List ℕ
  pub answer : List ℕ
  pub number : ℕ
  pub told : ℕ

-- a card with what it replies, over memory and locks as they now are
unfoldable pub replied : Card → List ℕ → List ℕ → Reply → List ℕ → Outcome
replied c memory locks reply found =
    record {
      card = c;
      memory = memory;
      locks = locks;
      answer = answered (reply_bytes c memory locks reply) found;
      number = 0;
      told = length_told (reply_bytes c memory locks reply);
    }

-- "All change nothing."
unfoldable pub unserved : Card → List ℕ → List ℕ → List ℕ → ℕ → Outcome
unserved c memory locks found n = record { card = c; memory = memory; locks = locks; answer = found; number = n; told = 0 }

-- "card, for each of the three events, 1, 2, 3, 4": refused, or served
unfoldable pub event : Card → List ℕ → List ℕ → List ℕ → Outcome → Outcome
event c memory locks found served =
    let n : ℕ = refusal c (length memory) locks (length found) in
    cond (eqb n 0) served (unserved c memory locks found n)

-- what was decided, carried out over memory and locks
unfoldable pub carried_out : Deed → List ℕ → List ℕ → List ℕ → List ℕ → Outcome
carried_out d frame memory locks found =
    replied d.card (memory_after d.card frame memory d.effect) (locks_after locks d.effect) d.reply found

-- ---- "Three events: frame, slot mark, power off."

unfoldable pub frame_event : Card → List ℕ → List ℕ → List ℕ → List ℕ → Outcome
frame_event c frame memory locks found = event c memory locks found (carried_out (decided c locks frame) frame memory locks found)

unfoldable pub mark_event : Card → List ℕ → List ℕ → List ℕ → Outcome
mark_event c memory locks found = event c memory locks found (replied (marked c).card memory locks (marked c).reply found)

unfoldable pub off_event : Card → List ℕ → List ℕ → List ℕ → Outcome
off_event c memory locks found = event c memory locks found (replied (powered_off c) memory locks Silence found)

-- they accept what a call leaves: the next one is served too
abbrev pub AcceptedNext : Outcome → Type 0
AcceptedNext o = Accepted o.card o.memory o.locks o.answer

-- the record after a call: where it is refused, the one that it was called with
unfoldable pub card_after : Card → Result Served Refusal → Card
card_after c (Ok served) = served.card
card_after c (Err refusal) = c

-- the answer's length: where it is refused, there is none
unfoldable pub length_of : Result Served Refusal → ℕ
length_of (Ok served) = served.length
length_of (Err refusal) = 0

-- what the three calls promise for a card: what is returned, and every lent byte
pub record Leaves (c : Card) (o : Outcome) (r : Result Served Refusal) (memory locks answer : List ℕ) : Type 0 where
  pub card : card_after c r ≡ o.card
  pub number : number_of r ≡ o.number
  pub told : length_of r ≡ o.told
  pub memory_left : memory ≡ o.memory
  pub locks_left : locks ≡ o.locks
  pub answer_left : answer ≡ o.answer
