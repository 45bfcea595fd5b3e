-- An event that is refused leaves everything as it was found; a damaged frame that is served only clears the card. By the one test of an event.
-- Assumes nothing.
use mathlib.Core.Path.{◌≡◌, refl, ◌∙◌}
use mathlib.Core.Bool.{false}
use Prim.Native.Nat.{ℕ}
use mathlib.Core.List.{List}
use lib.ListN.{length}
use Rattle.frames.specs.Frame.{is_sound}
use Rattle.card.specs.declared.Card.{Card}
use Rattle.card.specs.Record.{cleared}
use Rattle.commands.proofs.Rules.{unsound_silent}
use Rattle.play.specs.Effects.{memory_after, locks_after}
use Rattle.play.specs.Answer.{reply_bytes}
use Rattle.play.specs.Refusal.{refusal, Accepted}
use Rattle.play.specs.Events.{length_told, answered, Outcome, replied, unserved, carried_out, frame_event, mark_event, off_event}
use Rattle.play.proofs.EventWays.{event_refused, event_served}

-- ---- refused

pub frame_refused : (c : Card) (frame memory locks found : List ℕ) → (Accepted c memory locks found → ⊥)
    → frame_event c frame memory locks found ≡ unserved c memory locks found (refusal c (length memory) locks (length found))
unfolding frame_event
frame_refused c frame memory locks found h = event_refused c memory locks found _ _ refl h

pub mark_refused : (c : Card) (memory locks found : List ℕ) → (Accepted c memory locks found → ⊥)
    → mark_event c memory locks found ≡ unserved c memory locks found (refusal c (length memory) locks (length found))
unfolding mark_event
mark_refused c memory locks found h = event_refused c memory locks found _ _ refl h

pub off_refused : (c : Card) (memory locks found : List ℕ) → (Accepted c memory locks found → ⊥)
    → off_event c memory locks found ≡ unserved c memory locks found (refusal c (length memory) locks (length found))
unfolding off_event
off_refused c memory locks found h = event_refused c memory locks found _ _ refl h

-- ---- served, and damaged

pub frame_damaged : (c : Card) (frame memory locks found : List ℕ) → Accepted c memory locks found → is_sound frame ≡ false
    → ◌≡◌ {A = Outcome} (frame_event c frame memory locks found)
    (record { card = cleared c; memory = memory; locks = locks; answer = found; number = 0; told = 0 })
unfolding frame_event carried_out replied memory_after locks_after reply_bytes answered length_told
frame_damaged c frame memory locks found a e = event_served c memory locks found _ _ refl a ∙ rw (unsound_silent c locks frame e)
