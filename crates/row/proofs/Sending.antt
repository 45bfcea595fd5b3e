-- What the walk sends, and what it does to a card, as the definitions say. By the promise of asking and the ways of sending.
-- Assumes nothing.
use mathlib.Core.Path.{◌≡◌, sym, ap, ◌∙◌}
use Prim.Native.Nat.{ℕ}
use mathlib.Core.List.{List}
use Rattle.std.specs.Prelude.{Result}
use Rattle.refusals.specs.declared.Refusal.{Refusal}
use Rattle.card.specs.declared.Card.{Card}
use Rattle.walk.specs.declared.Walk.{Walk}
use Rattle.walk.specs.declared.Asked.{Asked}
use Rattle.walk.specs.declared.Send.{Send}
use Rattle.walk.specs.Ask.{asking, send_of, Asks}
use Rattle.row.specs.declared.Sent.{Sent}
use Rattle.row.specs.Row.{no_bytes, sent_of, heard_by, turn_by}

pub sent_asked : (w : Walk) {a : Result Asked Refusal} {left : List ℕ} {send : Send} → Asks w (asking w no_bytes) a left → send ≡ send_of a
    → record { send = send; bytes = left } ≡ sent_of w
unfolding sent_of
sent_asked w h is = λ i. record { send = (is ∙ h.send) i; bytes = h.room_left i }

pub turned_by : (s : Sent) (c : Card) {send : Send} → s.send ≡ send → heard_by send s.bytes c ≡ turn_by s c
unfolding turn_by
turned_by s c e = ap (λ (x : Send). heard_by x s.bytes c) (sym e)
