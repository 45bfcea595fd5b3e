-- What verdicts make of a card, and how the definitions of step 4 go by whom a request is for. By cases on the tests. Assumes nothing.
use mathlib.Core.Path.{◌≡◌, refl}
use mathlib.Core.Bool.{Bool, true, false, cond, not, ◌||◌}
use mathlib.Core.List.{List}
use Prim.Native.Nat.{ℕ}
use lib.Dec.{ltb, eqb}
use lib.ListN.{length, get_or}
use Rattle.frames.specs.declared.Flags.{Flags}
use Rattle.frames.specs.Field.{field_at}
use Rattle.frames.specs.Frame.{is_sound}
use Rattle.card.specs.declared.Card.{Card}
use Rattle.card.specs.declared.Mode.{Mode}
use Rattle.card.specs.declared.Reply.{Reply}
use Rattle.card.specs.declared.Reply.TheVariants.{Silence, Error, Done, Present, Blocks, Status, Information}
use Rattle.card.specs.declared.Held.TheVariants.{Success}
use Rattle.commands.specs.declared.Effect.{Effect}
use Rattle.commands.specs.declared.Effect.TheVariants.{Leave}
use Rattle.commands.specs.declared.Deed.{Deed}
use Rattle.commands.specs.declared.verdict.Change.{Change}
use Rattle.commands.specs.declared.verdict.Change.TheVariants.{Nothing}
use Rattle.commands.specs.declared.request.Address.{Address}
use Rattle.commands.specs.declared.request.Address.TheVariants.{Nobody, Another, Own}
use Rattle.card.specs.Record.{is_quiet, is_selected, in_mode}
use Rattle.commands.specs.Request.{deed, silent, done, failed, sorted, passed_by, addressed, unaddressed, requested}
use Rattle.commands.specs.Verdict.{verdict, changed, kept, made, turned, to_whom, body_place, heeded}

-- all but an error are held as success
pub kept_success : (reply : Reply) → ((code : ℕ) → reply ≡ Error code → ⊥) → Success ≡ kept reply
unfolding kept
kept_success Silence h = refl
kept_success (Error code) h = absurd (h code refl)
kept_success Done h = refl
kept_success Present h = refl
kept_success (Blocks first n option) h = refl
kept_success (Status first n) h = refl
kept_success Information h = refl

pub made_answer : (c : Card) (reply : Reply) → made c (verdict Nothing Leave reply false) ≡ deed c Leave reply
unfolding made changed
made_answer c reply = refl

pub made_done : (c : Card) (hold : Bool) (change : Change) (effect : Effect)
    → made c (verdict change effect Done hold) ≡ done hold (changed c change) effect
unfolding made kept done
made_done c true change effect = refl
made_done c false change effect = refl

pub made_failed : (c : Card) (hold : Bool) (code : ℕ) → made c (verdict Nothing Leave (Error code) hold) ≡ failed hold c code
unfolding made changed kept failed
made_failed c true code = refl
made_failed c false code = refl

pub made_turned : (c : Card) (test : Bool) (mode : Mode) → made c (turned test mode) ≡ silent (cond test (in_mode mode c) c)
unfolding made changed turned
made_turned c true mode = refl
made_turned c false mode = refl

-- what a verdict makes of a card
pub ruleset makes = (made_answer, made_done, made_failed, made_turned)

-- steps 1, 2 and 4 by whom the frame is for
unfoldable answered : Card → List ℕ → Flags → List ℕ → ℕ → Address → Deed
answered c locks f frame at Nobody = silent c
answered c locks f frame at Another = passed_by c (get_or frame 1 0)
answered c locks f frame at Own = sorted c locks f frame at

heeded_by : (c : Card) (locks : List ℕ) (f : Flags) (frame : List ℕ)
    → heeded c locks f frame ≡ answered c locks f frame (body_place f) (to_whom c f frame)
unfolding heeded requested addressed unaddressed to_whom answered
heeded_by c locks f frame =
    go (is_sound frame) (f.b4 || f.b8) f.b6 f.b5 (ltb (length frame) 12) (eqb (field_at frame 2 8) c.uid)
    (cond f.b5 (is_selected c.mode) (not (is_quiet c.mode)))
  where
    to : ℕ → Deed
    to at = sorted c locks f frame at

    past : Deed
    past = passed_by c (get_or frame 1 0)

    go : (sound reserved address select short equal on : Bool)
        → ◌≡◌ {A = Deed}
        (cond sound
        (cond reserved (silent c)
        (cond address (cond select (silent c) (cond short (silent c) (cond equal (to 10) past))) (cond on (to 2) (silent c))))
        (silent c))
        (answered c locks f frame (cond address 10 2)
        (cond sound
        (cond reserved Nobody (cond address (cond select Nobody (cond short Nobody (cond equal Own Another))) (cond on Own Nobody)))
        Nobody))
    go false reserved address select short equal on = refl
    go true true address select short equal on = refl
    go true false false select short equal true = refl
    go true false false select short equal false = refl
    go true false true true short equal on = refl
    go true false true false true equal on = refl
    go true false true false false true on = refl
    go true false true false false false on = refl

pub heeded_nobody : (c : Card) (locks : List ℕ) (f : Flags) (frame : List ℕ) → to_whom c f frame ≡ Nobody → heeded c locks f frame ≡ silent c
unfolding answered
heeded_nobody c locks f frame e = rw (heeded_by, e)

pub heeded_another : (c : Card) (locks : List ℕ) (f : Flags) (frame : List ℕ) → to_whom c f frame ≡ Another
    → heeded c locks f frame ≡ passed_by c (get_or frame 1 0)
unfolding answered
heeded_another c locks f frame e = rw (heeded_by, e)

pub heeded_own : (c : Card) (locks : List ℕ) (f : Flags) (frame : List ℕ) → to_whom c f frame ≡ Own
    → heeded c locks f frame ≡ sorted c locks f frame (body_place f)
unfolding answered
heeded_own c locks f frame e = rw (heeded_by, e)

-- what a frame comes to, by whom it is for
pub ruleset heeds = (heeded_nobody, heeded_another, heeded_own)
