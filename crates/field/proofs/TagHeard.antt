-- What a request or a slot mark does to one tag: the card is in step with the walk, nothing else changes, and it speaks exactly if it is called.
-- By the card's events, none of which is refused. Assumes nothing.
use mathlib.Core.Path.{◌≡◌, refl, sym, ap, ◌∙◌}
use Prim.Native.Nat.{ℕ, suc, ◌^◌, ◌<◌}
use native.Mathlib.Omega.{arith}
use mathlib.Core.List.{List}
use lib.ListN.{length}
use Rattle.lent.specs.Lent.{over}
use Rattle.lent.proofs.Over.{take_over}
use Rattle.card.specs.declared.Card.{Card}
use Rattle.commands.specs.declared.Deed.{Deed}
use Rattle.card.specs.declared.Turn.{Turn}
use Rattle.card.specs.Record.{cleared}
use Rattle.card.specs.Inventory.{present}
use Rattle.card.specs.Mark.{marked}
use Rattle.card.proofs.Heard.{heard_cleared}
use Rattle.commands.specs.Frame.{leaving}
use Rattle.play.specs.Refusal.{refusal}
use Rattle.play.specs.Effects.{memory_after, locks_after}
use Rattle.play.specs.Events.{Outcome, replied, carried_out, frame_event, mark_event}
use Rattle.play.proofs.EventWays.{event_served}
use Rattle.walk.specs.declared.Walk.{Walk}
use Rattle.walk.specs.declared.Send.TheVariants.{Mark, Request}
use Rattle.walk.specs.Record.{mask_length, whole_mask}
use Rattle.walk.specs.Ask.{request}
use Rattle.play.specs.Life.{Tag}
use Rattle.field.specs.Field.{Obeys, reached}
use Rattle.field.proofs.InTime.{in_step, calls, Follows, AtSlot}
use Rattle.field.proofs.Requested.{request_heard, request_decided}
use Rattle.field.proofs.MarkHeard.{mark_heard}
use Rattle.field.proofs.InStep.{served_same, cleared_blocks, cleared_size, slot_follows}

-- what becomes of a tag t of the start, over its room as found
unfoldable pub stepped : ℕ → Walk → Tag → List ℕ → Outcome
stepped family w t found =
    replied (in_step family w.level (whole_mask w) w.slot t.card) t.memory t.locks (present (calls family w t.card)) found

-- ---- a request

frame_heard : (c card : Card) (w : Walk) (memory locks found : List ℕ) → refusal card (length memory) locks (length found) ≡ 0
    → cleared card ≡ cleared c → w.level < 16 → whole_mask w < 2 ^ mask_length w.level → w.slot ≡ 0
    → frame_event card (request w) memory locks found
    ≡ replied (in_step w.family w.level (whole_mask w) w.slot c) memory locks (present (calls w.family w c)) found
unfolding frame_event carried_out memory_after locks_after
frame_heard c card w memory locks found served same h g e =
    event_served card memory locks found _ 0 (sym served) refl
    ∙ ap (λ (d : Deed). carried_out d (request w) memory locks found)
    (request_decided card locks w ∙ ap leaving (heard_cleared c card (request w) same ∙ request_heard c w h g e))

follows_served : (t₀ t : Tag) → Obeys t₀ → Follows t₀ t → refusal t.card (length t₀.memory) t₀.locks (length t.room) ≡ 0
follows_served t₀ t o f =
    rw f.room
    (served_same t₀.card t.card (length t₀.memory) t₀.locks (length t₀.room)
    (cleared_blocks t₀.card t.card f.card) (cleared_size t₀.card t.card f.card) f.accepted o.accepted)

pub request_reached : (w : Walk) (room : List ℕ) (t₀ t : Tag) → w.level < 16 → whole_mask w < 2 ^ mask_length w.level → w.slot ≡ 0 → Obeys t₀
    → Follows t₀ t → reached (Request (length (request w))) (over (request w) room) t ≡ stepped w.family w t₀ t.room
unfolding reached stepped
request_reached w room t₀ t h g e o f =
    rw (take_over (request w) room, f.memory, f.locks)
    (frame_heard t₀.card t.card w t₀.memory t₀.locks t.room (follows_served t₀ t o f) f.card h g e)

-- ---- a slot mark

pub mark_reached : (family : ℕ) (w : Walk) (s : ℕ) (sent : List ℕ) (t₀ t : Tag) → w.level < 16 → whole_mask w < 2 ^ mask_length w.level
    → w.slot ≡ suc s → s < 15 → Obeys t₀ → AtSlot family w.level (whole_mask w) s t₀ t → reached Mark sent t ≡ stepped family w t₀ t.room
unfolding reached stepped mark_event
mark_reached family w s sent t₀ t h g e f o a =
    let follows : Follows t₀ t = slot_follows family w.level (whole_mask w) s t₀ t h (omega arith) g o a in
    rw (a.memory, a.locks)
    (event_served t.card t₀.memory t₀.locks t.room _ 0 (sym (follows_served t₀ t o follows)) refl
    ∙ ap (λ (u : Turn). replied u.card t₀.memory t₀.locks u.reply t.room) (ap marked a.card ∙ mark_heard family w s t₀.card e f))
