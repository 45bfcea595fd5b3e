-- What a request leaves of a card's shape and UID, and of the lengths of memory and lock bytes; and what the commands that hold their answer show.
-- By the tests of the definitions. Assumes nothing.
use mathlib.Core.Path.{◌≡◌, refl}
use mathlib.Core.Bool.{Bool, true, false, cond}
use lib.Dec.{eqb}
use Rattle.card.specs.declared.Card.{Card}
use Rattle.card.specs.declared.Held.{Held}
use Rattle.card.specs.Record.{remade, cleared, in_mode, holding, with_afi, with_dsfid}
use Rattle.reader.specs.declared.Request.{Request}
use Rattle.reader.proofs.Asked.{changed_by}

-- the same shape and the same UID
pub record Kept (c d : Card) : Type 0 where
  pub blocks : d.blocks ≡ c.blocks
  pub size : d.size ≡ c.size
  pub uid : d.uid ≡ c.uid

-- what holds of both holds of the one that is chosen
pub either_holds : {A : Type 0} (P : A → Type 0) (test : Bool) (a b : A) → P a → P b → P (cond test a b)
either_holds P true a b p q = p
either_holds P false a b p q = q

pub changed_kept : (q : Request) (c : Card) → Kept c (changed_by q (cleared c))
unfolding changed_by cleared in_mode with_afi with_dsfid remade
changed_kept q c =
    either_holds (Kept c) (eqb q.command 0x25) _ _ (record { blocks = refl; size = refl; uid = refl })
    (either_holds (Kept c) (eqb q.command 0x26) _ _ (record { blocks = refl; size = refl; uid = refl })
    (either_holds (Kept c) (eqb q.command 0x27) _ _ (record { blocks = refl; size = refl; uid = refl })
    (either_holds (Kept c) (eqb q.command 0x28) _ _ (record { blocks = refl; size = refl; uid = refl })
    (either_holds (Kept c) (eqb q.command 0x29) _ _ (record { blocks = refl; size = refl; uid = refl })
    (either_holds (Kept c) (eqb q.command 0x2a) _ _ (record { blocks = refl; size = refl; uid = refl })
    (record { blocks = refl; size = refl; uid = refl }))))))

pub cleared_kept : (c : Card) → Kept c (cleared c)
unfolding cleared remade
cleared_kept c = record { blocks = refl; size = refl; uid = refl }

pub holding_kept : (c d : Card) (h : Held) → Kept c d → Kept c (holding h d)
unfolding holding remade
holding_kept c d h p = record { blocks = p.blocks; size = p.size; uid = p.uid }
