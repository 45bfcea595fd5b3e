-- What the walk sends reaches a card of the row: it is in step with the walk, and answers exactly if it is called.
-- By what a request and a slot mark do to a card of a field. Assumes nothing.
use mathlib.Core.Path.{◌≡◌, ap, ◌∙◌}
use mathlib.Core.Bool.{true}
use Prim.Native.Nat.{ℕ, suc, ◌<◌}
use native.Mathlib.Omega.{arith}
use Rattle.lent.proofs.Over.{take_over}
use Rattle.card.specs.declared.Card.{Card}
use Rattle.card.specs.declared.Turn.{Turn}
use Rattle.card.specs.Record.{cleared}
use Rattle.card.specs.Inventory.{turn, present}
use Rattle.card.specs.Mark.{marked}
use Rattle.card.specs.Frame.{heard_inventory}
use Rattle.card.proofs.Heard.{heard_cleared}
use Rattle.walk.specs.declared.Walk.{Walk}
use Rattle.walk.specs.Record.{whole_mask, is_accepted, is_running}
use Rattle.walk.specs.Ask.{Asking, request, sent, room_after}
use Rattle.walk.proofs.Limits.{Accepted, accepted_of_is_accepted}
use Rattle.field.proofs.InTime.{in_step, calls}
use Rattle.field.proofs.Requested.{request_heard}
use Rattle.field.proofs.MarkHeard.{mark_heard}
use Rattle.field.proofs.RowAsked.{walk_asked, sent_request, sent_mark}
use Rattle.row.specs.Row.{no_bytes, sent_of, heard_by, turn_by, turn_of}

-- what becomes of a card c of the start
unfoldable pub stepped : Walk → Card → Turn
stepped w c = turn (in_step w.family w.level (whole_mask w) w.slot c) (present (calls w.family w c))

-- ---- a request

request_stepped : (c card : Card) (w : Walk) → Accepted w → w.level < 16 → w.slot ≡ 0 → cleared card ≡ cleared c
    → heard_inventory card (request w) ≡ stepped w c
unfolding stepped
request_stepped c card w facts level e same = heard_cleared c card (request w) same ∙ request_heard c w level facts.mask e

-- ---- what is sent

turn_asked : (w : Walk) (c : Card) → is_accepted w ≡ true → turn_of w c ≡ heard_by (sent w) (room_after w (sent w) no_bytes) c
unfolding turn_of turn_by sent_of no_bytes
turn_asked w c e = ap (λ (a : Asking). heard_by a.send a.room c) (walk_asked w no_bytes e (omega arith))

pub request_turned : (w : Walk) (c card : Card) → is_accepted w ≡ true → w.level < 16 → is_running w ≡ true → w.slot ≡ 0
    → cleared card ≡ cleared c → turn_of w card ≡ stepped w c
unfolding heard_by room_after
request_turned w c card accepted level running e same =
    turn_asked w card accepted
    ∙ rw (sent_request w running e, take_over (request w) no_bytes) (request_stepped c card w (accepted_of_is_accepted w accepted) level e same)

pub mark_turned : (w : Walk) (s : ℕ) (c card : Card) → is_accepted w ≡ true → is_running w ≡ true → w.slot ≡ suc s
    → card ≡ in_step w.family w.level (whole_mask w) s c → turn_of w card ≡ stepped w c
unfolding heard_by stepped
mark_turned w s c card accepted running e same =
    let below : s < 15 = omega (arith, e, (accepted_of_is_accepted w accepted).slot) in
    turn_asked w card accepted ∙ rw (sent_mark w s running e) (ap marked same ∙ mark_heard w.family w s c e below)
