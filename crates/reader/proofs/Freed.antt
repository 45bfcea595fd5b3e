-- A card that no sequence runs on and that holds no answer: so any request leaves it that does not hold its answer, and a slot mark finds it silent. By the tests of the
-- definitions. Assumes nothing.
use mathlib.Core.Path.{◌≡◌, refl, ap, ◌∙◌}
use mathlib.Core.Bool.{Bool, true}
use mathlib.Core.List.{List}
use Prim.Native.Nat.{ℕ}
use lib.Dec.{eqb}
use Rattle.std.specs.Prelude.{Result}
use Rattle.refusals.specs.declared.Refusal.{Refusal}
use Rattle.card.specs.declared.Card.{Card}
use Rattle.card.specs.declared.Mode.{Mode}
use Rattle.card.specs.declared.Sequence.TheVariants.{Idle}
use Rattle.card.specs.declared.Held.TheVariants.{Free}
use Rattle.card.specs.Record.{remade, cleared, in_mode, with_afi, with_dsfid}
use Rattle.card.specs.Inventory.{still}
use Rattle.card.specs.Mark.{moved, released, marked}
use Rattle.play.specs.declared.Served.{Served}
use Rattle.play.specs.Refusal.{Accepted}
use Rattle.play.specs.Events.{mark_event, length_of, Leaves}
use Rattle.reader.specs.declared.Request.{Request}
use Rattle.reader.proofs.Asked.{changed_by}
use Rattle.reader.proofs.Kept.{either_holds}
use Rattle.reader.proofs.Spoken.{mark_met, told_none}

pub record Freed (c : Card) : Type 0 where
  pub held : c.held ≡ Free
  pub sequence : c.sequence ≡ Idle

pub cleared_freed : (c : Card) → Freed (cleared c)
unfolding cleared remade
cleared_freed c = record { held = refl; sequence = refl }

pub mode_freed : (mode : Mode) (c : Card) → Freed c → Freed (in_mode mode c)
unfolding in_mode remade
mode_freed mode c p = record { held = p.held; sequence = p.sequence }

afi_freed : (afi : ℕ) (locked : Bool) (c : Card) → Freed c → Freed (with_afi afi locked c)
unfolding with_afi remade
afi_freed afi locked c p = record { held = p.held; sequence = p.sequence }

dsfid_freed : (dsfid : ℕ) (locked : Bool) (c : Card) → Freed c → Freed (with_dsfid dsfid locked c)
unfolding with_dsfid remade
dsfid_freed dsfid locked c p = record { held = p.held; sequence = p.sequence }

pub changed_freed : (q : Request) (c : Card) → Freed c → Freed (changed_by q c)
unfolding changed_by
changed_freed q c p =
    either_holds Freed (eqb q.command 0x25) _ _ (mode_freed _ c p)
    (either_holds Freed (eqb q.command 0x26) _ _ (mode_freed _ c p)
    (either_holds Freed (eqb q.command 0x27) _ _ (afi_freed _ _ c p)
    (either_holds Freed (eqb q.command 0x28) _ _ (afi_freed _ _ c p)
    (either_holds Freed (eqb q.command 0x29) _ _ (dsfid_freed _ _ c p)
    (either_holds Freed (eqb q.command 0x2a) _ _ (dsfid_freed _ _ c p) p)))))

-- a slot mark
marked_still : (c : Card) → Freed c → marked c ≡ still c
unfolding marked released moved
marked_still c p = ap (released c) p.held ∙ ap (moved c) p.sequence

pub mark_silent : (c : Card) (m l room : List ℕ) → Accepted c m l room → Freed c → {s : Result Served Refusal} {m' l' a' : List ℕ}
    → Leaves c (mark_event c m l room) s m' l' a' → eqb (length_of s) 0 ≡ true
mark_silent c m l room accepted p leaves = told_none c m l room (rw (mark_met c m l room accepted, marked_still c p) at leaves)
