-- Steps of private functions: nothing here has to be held against the rules page.
-- What a request comes to, said without the record: how the card's functions hand it on until the record is made.
use Rattle.std.specs.Prelude.{Bool, false, cond, not, List, ℕ, ltb, eqb, length}
use Rattle.frames.specs.declared.Flags.{Flags}
use Rattle.frames.specs.Flags.{sets_reserved, selects, addresses}
use Rattle.frames.specs.Field.{field_at}
use Rattle.frames.specs.Frame.{is_sound}
use Rattle.card.specs.declared.Card.{Card}
use Rattle.card.specs.declared.Mode.{Mode}
use Rattle.card.specs.declared.Held.{Held}
use Rattle.card.specs.declared.Held.TheVariants.{Success, Code}
use Rattle.card.specs.declared.Reply.{Reply}
use Rattle.card.specs.declared.Reply.TheVariants.{Silence, Error, Done, Present, Blocks, Status, Information}
use Rattle.commands.specs.declared.Effect.{Effect}
use Rattle.commands.specs.declared.Effect.TheVariants.{Leave}
use Rattle.commands.specs.declared.Deed.{Deed}
use Rattle.commands.specs.declared.verdict.Change.{Change}
use Rattle.commands.specs.declared.verdict.Change.TheVariants.{Nothing, InMode, Afi, Dsfid}
use Rattle.commands.specs.declared.verdict.Verdict.{Verdict}
use Rattle.commands.specs.declared.request.Address.{Address}
use Rattle.commands.specs.declared.request.Address.TheVariants.{Nobody, Another, Own}
use Rattle.card.specs.Record.{is_quiet, is_selected, in_mode, holding, with_afi, with_dsfid}
use Rattle.commands.specs.Request.{deed, silent, requested}

abbrev pub verdict : Change → Effect → Reply → Bool → Verdict
verdict change effect reply hold = record { change = change; effect = effect; reply = reply; hold = hold }

unfoldable pub changed : Card → Change → Card
changed c Nothing = c
changed c (InMode mode) = in_mode mode c
changed c (Afi value locked) = with_afi value locked c
changed c (Dsfid value locked) = with_dsfid value locked c

-- "the answer, success or error .., is held": the answer as it is held
unfoldable pub kept : Reply → Held
kept Silence = Success
kept (Error code) = Code code
kept Done = Success
kept Present = Success
kept (Blocks first n option) = Success
kept (Status first n) = Success
kept Information = Success

unfoldable pub made : Card → Verdict → Deed
made c v =
    cond v.hold
    (deed (holding (kept v.reply) (changed c v.change)) v.effect Silence)
    (deed (changed c v.change) v.effect v.reply)

-- silence, in another mode where the test holds
unfoldable pub turned : Bool → Mode → Verdict
turned test mode = verdict (cond test (InMode mode) Nothing) Leave Silence false

-- steps 1, 2 and 4: for whom a frame is that is no inventory request
unfoldable pub to_whom : Card → Flags → List ℕ → Address
to_whom c f frame =
    cond (is_sound frame)
    (cond (sets_reserved f) Nobody
    (cond (addresses f)
    (cond (selects f) Nobody (cond (ltb (length frame) 12) Nobody (cond (eqb (field_at frame 2 8) c.uid) Own Another)))
    (cond (cond (selects f) (is_selected c.mode) (not (is_quiet c.mode))) Own Nobody)))
    Nobody

-- "Address: eight UID bytes follow the command": the body's place
abbrev pub body_place : Flags → ℕ
body_place f = cond (addresses f) 10 2

-- what such a frame makes of a cleared card
unfoldable pub heeded : Card → List ℕ → Flags → List ℕ → Deed
heeded c locks f frame = cond (is_sound frame) (cond (sets_reserved f) (silent c) (requested c locks f frame)) (silent c)
