-- 01, The walk: "The bench's cards stand in one lent row, 0 to 100 of them."
use Rattle.std.specs.Prelude.{ℕ, zero, suc, false, cond, List, [], ◌∷◌, ◌≡◌, eqb, take}
use Rattle.crc.specs.Check.{sealed}
use Rattle.frames.specs.Field.{field_bytes}
use Rattle.card.specs.declared.Card.{Card}
use Rattle.card.specs.declared.Turn.{Turn}
use Rattle.card.specs.declared.Reply.{Reply}
use Rattle.card.specs.declared.Reply.TheVariants as reply
use Rattle.card.specs.declared.Mode.TheVariants.{Ready}
use Rattle.card.specs.declared.Sequence.TheVariants.{Idle}
use Rattle.card.specs.declared.Held.TheVariants.{Free}
use Rattle.card.specs.Inventory.{still}
use Rattle.card.specs.Mark.{marked}
use Rattle.card.specs.Frame.{heard_inventory}
use Rattle.walk.specs.declared.Walk.{Walk}
use Rattle.walk.specs.declared.Kind.{Kind}
use Rattle.walk.specs.declared.Kind.TheVariants as kind
use Rattle.walk.specs.declared.Send.{Send}
use Rattle.walk.specs.declared.Send.TheVariants.{Nothing, Mark, Request}
use Rattle.walk.specs.Hear.{Hearing, hearing}
use Rattle.walk.specs.Ask.{asking}
use Rattle.row.specs.declared.Air.{Air}
use Rattle.row.specs.declared.Desk.{Desk}
use Rattle.row.specs.declared.Sent.{Sent}

-- Bench: "cards Ready"; what else a card holds is free
unfoldable pub card_of : ℕ → Card
card_of uid =
    record {
      blocks = 1;
      size = 1;
      uid = uid;
      afi = 0;
      dsfid = 0;
      afi_locked = false;
      dsfid_locked = false;
      ic_reference = 0;
      mode = Ready;
      sequence = Idle;
      held = Free;
    }

unfoldable pub cards_of : List ℕ → List Card
cards_of [] = []
cards_of (u ∷ us) = card_of u ∷ cards_of us

-- room for a request
unfoldable pub no_bytes : List ℕ
no_bytes = 0 ∷ 0 ∷ 0 ∷ 0 ∷ 0 ∷ 0 ∷ 0 ∷ 0 ∷ 0 ∷ 0 ∷ 0 ∷ 0 ∷ 0 ∷ 0 ∷ []

-- what the walk sends in a slot
unfoldable pub sent_of : Walk → Sent
sent_of w = record { send = (asking w no_bytes).send; bytes = (asking w no_bytes).room }

-- it reaches a card
unfoldable pub heard_by : Send → List ℕ → Card → Turn
heard_by Nothing bytes c = still c
heard_by Mark bytes c = marked c
heard_by (Request n) bytes c = heard_inventory c (take n bytes)

unfoldable pub turn_by : Sent → Card → Turn
turn_by s c = heard_by s.send s.bytes c

unfoldable pub turn_of : Walk → Card → Turn
turn_of w c = turn_by (sent_of w) c

-- ---- what is in the air of a slot: how many answer, 2 for two or more, and the first one's DSFID and UID

unfoldable pub still_air : Air
still_air = record { answers = 0; dsfid = 0; uid = 0 }

-- two or more
unfoldable pub crowded : Air → Air
crowded air = record { answers = 2; dsfid = air.dsfid; uid = air.uid }

-- one card more answers. The walk sends inventory requests alone, so that no other answer comes; it would be heard as a clash
unfoldable pub air_with : Air → Card → Reply → Air
air_with air c reply.Silence = air
air_with air c (reply.Error code) = crowded air
air_with air c reply.Done = crowded air
air_with air c reply.Present = cond (eqb air.answers 0) (record { answers = 1; dsfid = c.dsfid; uid = c.uid }) (crowded air)
air_with air c (reply.Blocks first n option) = crowded air
air_with air c (reply.Status first n) = crowded air
air_with air c reply.Information = crowded air

-- a whole row
unfoldable pub row_air : Walk → Air → List Card → Air
row_air w air [] = air
row_air w air (c ∷ cs) = row_air w (air_with air (turn_of w c).card (turn_of w c).reply) cs

unfoldable pub row_after : Walk → List Card → List Card
row_after w [] = []
row_after w (c ∷ cs) = (turn_of w c).card ∷ row_after w cs

-- what `listen_row` promises
pub record HearsRow (w : Walk) (row : List Card) (r : Air) (left : List Card) : Type 0 where
  pub air : r ≡ row_air w still_air row
  pub row_left : left ≡ row_after w row

-- ---- what the walk hears: "One reply arrives whole; two or more in a slot arrive as a clash."

unfoldable pub air_kind : Air → Kind
air_kind air = cond (eqb air.answers 0) kind.Silence (cond (eqb air.answers 1) kind.Bytes kind.Clash)

unfoldable pub air_bytes : Air → List ℕ
air_bytes air = sealed (0x00 ∷ air.dsfid ∷ field_bytes 8 air.uid)

-- the walk with its list
unfoldable pub desk_after : Desk → Air → Desk
desk_after d air =
    let h : Hearing = hearing d.walk (air_kind air) (air_bytes air) d.list in
    record { walk = h.walk; list = h.list }

-- ---- slots

pub record Played : Type 0 where
  pub desk : Desk
  pub row : List Card

unfoldable pub slot_played : Played → Played
slot_played p =
    let w : Walk = p.desk.walk in
    record { desk = desk_after p.desk (row_air w still_air p.row); row = row_after w p.row }

unfoldable pub played_for : ℕ → Played → Played
played_for zero p = p
played_for (suc n) p = played_for n (slot_played p)
