-- Demand 3: "Let a fresh walk hear a field of cards": slot after slot, each thing that the walk sends reaching every card.
use Rattle.std.specs.Prelude.{ℕ, zero, suc, List}
use Rattle.walk.specs.declared.Walk.{Walk}
use Rattle.walk.specs.Record.{started_of, started}
use Rattle.walk.specs.Hear.{Hearing, hearing}
use Rattle.walk.specs.Ask.{Asking, asking}
use Rattle.play.specs.Life.{Tag}
use Rattle.field.specs.Field.{tags_after, replies, Arrival, arrives}

-- all that stands on the desk: the walk, its list, the room for what it sends, and the cards
pub record Play : Type 0 where
  pub walk : Walk
  pub list : List ℕ
  pub room : List ℕ
  pub tags : List Tag

-- a slot: the walk is asked, what it says is sent, and what arrives is heard. What arrives of the replies is the air's to say
unfoldable pub slot_played_by : (List (List ℕ) → Arrival) → Play → Play
slot_played_by air p =
    let a : Asking = asking p.walk p.room in
    let heard : Arrival = air (replies a.send a.room p.tags) in
    let h : Hearing = hearing p.walk heard.kind heard.bytes p.list in
    record { walk = h.walk; list = h.list; room = a.room; tags = tags_after a.send a.room p.tags }

unfoldable pub played_for_by : (List (List ℕ) → Arrival) → ℕ → Play → Play
played_for_by air zero p = p
played_for_by air (suc n) p = played_for_by air n (slot_played_by air p)

-- "One reply arrives whole; two or more in a slot arrive as a clash."
abbrev pub slot_played : Play → Play
slot_played p = slot_played_by arrives p

abbrev pub played_for : ℕ → Play → Play
played_for n p = played_for_by arrives n p

-- a fresh walk of so many levels
unfoldable pub fresh_of : ℕ → ℕ → List ℕ → List ℕ → List Tag → Play
fresh_of levels family list room tags = record { walk = started_of levels family; list = list; room = room; tags = tags }

-- "a fresh walk"
unfoldable pub fresh : ℕ → List ℕ → List ℕ → List Tag → Play
fresh family list room tags = record { walk = started family; list = list; room = room; tags = tags }
