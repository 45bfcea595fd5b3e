-- Shape, UID and IC reference stay. By the changes of a record, none of which touches them. Assumes nothing.
use mathlib.Core.Path.{◌≡◌, refl}
use Prim.Native.Nat.{ℕ}
use mathlib.Core.List.{List}
use Rattle.card.specs.declared.Card.{Card}
use Rattle.card.specs.Record.{remade, in_mode, in_sequence, holding, with_afi, with_dsfid}
use Rattle.card.proofs.Changes.{Changes}
use Rattle.play.specs.Fits.{Kept}

pub self_kept : (card : Card) → Kept card card
self_kept card = record { blocks = refl; size = refl; uid = refl; ic_reference = refl }

same : (card c d : Card) → Kept card c → d.blocks ≡ c.blocks → d.size ≡ c.size → d.uid ≡ c.uid → d.ic_reference ≡ c.ic_reference → Kept card d
same card c d k b s u i =
    record {
      blocks = rw b k.blocks;
      size = rw s k.size;
      uid = rw u k.uid;
      ic_reference = rw i k.ic_reference;
    }

pub kept_changes : (card : Card) (frame : List ℕ) → Changes (Kept card) frame
unfolding in_mode in_sequence holding with_afi with_dsfid remade
kept_changes card frame =
    record {
      modes = λ c k m. same card c _ k refl refl refl refl;
      sequences = λ c k s e. same card c _ k refl refl refl refl;
      holds = λ c k h e. same card c _ k refl refl refl refl;
      writes_afi = λ c k e at. same card c _ k refl refl refl refl;
      locks_afi = λ c k. same card c _ k refl refl refl refl;
      writes_dsfid = λ c k e at. same card c _ k refl refl refl refl;
      locks_dsfid = λ c k. same card c _ k refl refl refl refl;
    }
