-- 01, The card: a card with all that is lent to it, and what events leave of it, one after another.
use Rattle.std.specs.Prelude.{ℕ, List, [], ◌∷◌}
use Rattle.card.specs.declared.Card.{Card}
use Rattle.play.specs.Refusal.{Accepted}
use Rattle.play.specs.Events.{Outcome, frame_event, mark_event, off_event}

-- a card with its memory, its lock bytes and the room for its answer
pub record Tag : Type 0 where
  pub card : Card
  pub memory : List ℕ
  pub locks : List ℕ
  pub room : List ℕ

-- numbers 1 to 4 accept it
abbrev pub AcceptedTag : Tag → Type 0
AcceptedTag t = Accepted t.card t.memory t.locks t.room

-- "Three events: frame, slot mark, power off."; a frame is any bytes
pub data Event : Type 0 where
  Frame : List ℕ → Event
  Mark : Event
  Off : Event

-- what an event makes of a card
unfoldable pub met : Event → Tag → Outcome
met (Frame bytes) t = frame_event t.card bytes t.memory t.locks t.room
met Mark t = mark_event t.card t.memory t.locks t.room
met Off t = off_event t.card t.memory t.locks t.room

-- the card after it
unfoldable pub tag_after : Outcome → Tag
tag_after o = record { card = o.card; memory = o.memory; locks = o.locks; room = o.answer }

-- after a list of events, the first first
unfoldable pub lived : List Event → Tag → Tag
lived [] t = t
lived (e ∷ es) t = lived es (tag_after (met e t))
