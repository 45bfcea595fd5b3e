-- What asking leaves of the room and, after an ending, of the cards: the room keeps its length, nothing is sent and no card changed.
-- By the tests of the refusal. Assumes nothing.
use mathlib.Core.Path.{◌≡◌, refl, ap}
use mathlib.Core.Bool.{true, false}
use Prim.Native.Nat.{ℕ, ◌≤◌, ◌<◌}
use native.Mathlib.Omega.{arith}
use mathlib.Core.List.{List, [], ◌∷◌}
use borrow.Author.Tests.{le-leb}
use lib.ListN.{length}
use Rattle.lent.proofs.Over.{length_over}
use Rattle.play.specs.Answer.{reply_bytes}
use Rattle.play.specs.Events.{answered, replied}
use Rattle.walk.specs.declared.Walk.{Walk}
use Rattle.walk.specs.declared.Send.{Send}
use Rattle.walk.specs.declared.Send.TheVariants.{Nothing, Mark, Request}
use Rattle.walk.specs.Record.{is_accepted, is_running}
use Rattle.walk.specs.Ask as ask
use Rattle.walk.specs.Ask.{sent, room_asked, room_after, asking}
use Rattle.walk.proofs.Requests.{length_request_most}
use Rattle.play.specs.Life.{Tag, tag_after}
use Rattle.field.specs.Field.{reached, tags_after}

-- the room keeps its length
pub room_left : (w : Walk) (s : Send) (room : List ℕ) → w.level < 16 → 14 ≤ length room → length (room_after w s room) ≡ length room
unfolding room_after
room_left w Nothing room h g = refl
room_left w Mark room h g = refl
room_left w (Request n) room h g = length_over (ask.request w) room (omega (arith, length_request_most w h))

-- ---- after an ending

pub ended_asked : (w : Walk) (room : List ℕ) → is_accepted w ≡ true → is_running w ≡ false
    → asking w room ≡ record { room = room; number = 0; send = Nothing }
unfolding asking ask.refusal sent room_asked room_after
ended_asked w room e ended = rw (e, ended, le-leb 0 (length room) (omega arith))

-- nothing reaches the cards
pub nothing_reached : (room : List ℕ) (ts : List Tag) → tags_after Nothing room ts ≡ ts
unfolding tags_after tag_after reached replied answered reply_bytes
nothing_reached room [] = refl
nothing_reached room (t ∷ ts) = ap (λ (us : List Tag). t ∷ us) (nothing_reached room ts)
