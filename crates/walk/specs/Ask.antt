-- 01, The walk: what to send.
use Rattle.std.specs.Prelude.{Result, Ok, Err, ℕ, cond, List, [], ◌∷◌, ◌++◌, ◌≡◌, leb, eqb, length}
use Rattle.lent.specs.Lent.{over}
use Rattle.refusals.specs.declared.Refusal.{Refusal}
use Rattle.refusals.specs.Number.{number_of}
use Rattle.crc.specs.Check.{sealed}
use Rattle.frames.specs.Field.{field_bytes}
use Rattle.slots.specs.Fits.{mask_bytes}
use Rattle.walk.specs.declared.Walk.{Walk}
use Rattle.walk.specs.declared.Send.{Send}
use Rattle.walk.specs.declared.Send.TheVariants.{Nothing, Mark, Request}
use Rattle.walk.specs.declared.Asked.{Asked}
use Rattle.walk.specs.Record.{mask_length, whole_mask, is_running, has_family, is_accepted}

-- "flags 06 (16 with a family), 01, the family if any"
unfoldable pub request_head : Walk → List ℕ
request_head w = cond (has_family w) (0x16 ∷ 0x01 ∷ w.family ∷ []) (0x06 ∷ 0x01 ∷ [])

-- "mask length 4k with k from 0 to 15, the mask with zero padding"; a walk of fourteen levels has k from 0 to 13
unfoldable pub request_body : Walk → List ℕ
request_body w = request_head w ++ mask_length w.level ∷ field_bytes (mask_bytes (mask_length w.level)) (whole_mask w)

-- "check"
unfoldable pub request : Walk → List ℕ
request w = sealed (request_body w)

-- "request, slot mark or nothing": "Slots 0 to 15 are then heard, a slot mark before each but the first."; nothing after an ending
unfoldable pub sent : Walk → Send
sent w = cond (is_running w) (cond (eqb w.slot 0) (Request (length (request w))) Mark) Nothing

-- "14 when what to send is a request (a slot mark or nothing needs no room)"
unfoldable pub room_asked : Send → ℕ
room_asked Nothing = 0
room_asked Mark = 0
room_asked (Request n) = 14

-- the request at the start of the room; else the room as found
unfoldable pub room_after : Walk → Send → List ℕ → List ℕ
room_after w Nothing room = room
room_after w Mark room = room
room_after w (Request n) room = over (request w) room

-- "what to send 10, 8"
unfoldable pub refusal : Walk → ℕ → ℕ
refusal w room = cond (is_accepted w) (cond (leb (room_asked (sent w)) room) 0 8) 10

-- all that asking leaves behind: the walk stays
pub record Asking : Type 0 where
  pub room : List ℕ
  pub number : ℕ
  pub send : Send

unfoldable pub asking : Walk → List ℕ → Asking
asking w room =
    let n : ℕ = refusal w (length room) in
    cond (eqb n 0) (record { room = room_after w (sent w) room; number = 0; send = sent w }) (record { room = room; number = n; send = Nothing })

-- what a call leaves: the walk that it hands back, or the one that the caller has where it is refused; and what to send, nothing where it is refused
unfoldable pub walk_asked : Walk → Result Asked Refusal → Walk
walk_asked w (Ok asked) = asked.walk
walk_asked w (Err refusal) = w

unfoldable pub send_of : Result Asked Refusal → Send
send_of (Ok asked) = asked.send
send_of (Err refusal) = Nothing

-- "may be asked often": what `ask` promises is the walk as it was, what is returned, and every byte of the room
pub record Asks (w : Walk) (a : Asking) (r : Result Asked Refusal) (room : List ℕ) : Type 0 where
  pub walk : walk_asked w r ≡ w
  pub number : number_of r ≡ a.number
  pub send : send_of r ≡ a.send
  pub room_left : room ≡ a.room
