-- What a request asks of a card that it calls, in the card's own words: its reply, its effect, and the card after it. Definitions of the laws beside this
-- file alone: no promise speaks of them.
use Prim.Native.Nat.{ℕ, ◌+◌}
use mathlib.Core.Bool.{Bool, true, false, cond}
use mathlib.Core.List.{List}
use lib.Dec.{eqb}
use Rattle.card.specs.declared.Card.{Card}
use Rattle.card.specs.declared.Mode.TheVariants.{Ready, Selected}
use Rattle.card.specs.declared.Held.TheVariants.{Success}
use Rattle.card.specs.declared.Reply.{Reply}
use Rattle.card.specs.declared.Reply.TheVariants.{Silence, Done, Blocks, Status, Information}
use Rattle.card.specs.Record.{cleared, in_mode, holding, with_afi, with_dsfid}
use Rattle.commands.specs.declared.Effect.{Effect}
use Rattle.commands.specs.declared.Effect.TheVariants.{Leave, Write, Lock}
use Rattle.commands.specs.declared.Deed.{Deed}
use Rattle.commands.specs.Request.{deed, failed}
use Rattle.reader.specs.declared.Request.{Request}
use Rattle.reader.specs.Request.{is_addressed, has_option}
use Rattle.reader.specs.Shown.{is_held, code_of}

unfoldable pub reply_to : Request → Reply
reply_to q =
    cond (eqb q.command 0x20) (Blocks q.first 1 (has_option q))
    (cond (eqb q.command 0x23) (Blocks q.first (q.n + 1) (has_option q))
    (cond (eqb q.command 0x2b) Information
    (cond (eqb q.command 0x2c) (Status q.first (q.n + 1))
    Done)))

-- the place of its body, and that of the data of 21
unfoldable pub body_at : Request → ℕ
body_at q = cond (is_addressed q) 10 2

unfoldable pub effect_of : Request → Effect
effect_of q = cond (eqb q.command 0x21) (Write q.first 1 (body_at q + 1)) (cond (eqb q.command 0x22) (Lock q.first) Leave)

unfoldable pub changed_by : Request → Card → Card
changed_by q c =
    cond (eqb q.command 0x25) (in_mode Selected c)
    (cond (eqb q.command 0x26) (in_mode Ready c)
    (cond (eqb q.command 0x27) (with_afi q.value false c)
    (cond (eqb q.command 0x28) (with_afi c.afi true c)
    (cond (eqb q.command 0x29) (with_dsfid q.value false c)
    (cond (eqb q.command 0x2a) (with_dsfid c.dsfid true c)
    c)))))

-- answered, or its answer held
unfoldable pub finished : Bool → Card → Effect → Reply → Deed
finished true c effect reply = deed (holding Success c) effect Silence
finished false c effect reply = deed c effect reply

unfoldable pub deed_of : Card → List ℕ → Request → Deed
deed_of c locks q =
    cond (eqb (code_of c locks q) 0)
    (finished (is_held q) (changed_by q (cleared c)) (effect_of q) (reply_to q))
    (failed (is_held q) (cleared c) (code_of c locks q))
