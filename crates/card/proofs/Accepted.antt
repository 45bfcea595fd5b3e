-- A record that number 1 accepts is accepted after each change, and so after a slot mark and power off. By the three tests of the record.
-- Assumes nothing.
use mathlib.Core.Path.{◌≡◌}
use mathlib.Core.Bool.{true, ◌&&◌, and-eq-true_iff}
use mathlib.Core.List.{List, []}
use Prim.Native.Nat.{ℕ, ◌≤◌}
use borrow.Author.Tests.{leb-true}
use lib.Dec.{leb}
use Rattle.card.specs.declared.Card.{Card}
use Rattle.card.specs.declared.Sequence.{Sequence}
use Rattle.card.specs.declared.Held.{Held}
use Rattle.card.specs.Record.{shape_fits, sequence_fits, held_fits, is_accepted, remade, in_mode, in_sequence, holding, with_afi, with_dsfid, powered_off}
use Rattle.card.specs.Mark.{marked}
use Rattle.card.proofs.Changes.{Changes, off_keeps, marked_keeps}

pub record Tests (c : Card) : Type 0 where
  pub shape : shape_fits c.blocks c.size ≡ true
  pub sequence : sequence_fits c.sequence ≡ true
  pub held : held_fits c.held ≡ true

pub tests_of : (c : Card) → is_accepted c ≡ true → Tests c
unfolding is_accepted
tests_of c e =
    let first = (and-eq-true_iff (shape_fits c.blocks c.size) (sequence_fits c.sequence && held_fits c.held)).0 e in
    let rest = (and-eq-true_iff (sequence_fits c.sequence) (held_fits c.held)).0 first.1 in
    record { shape = first.0; sequence = rest.0; held = rest.1 }

-- the limits that the shape keeps
pub record Shape (blocks size : ℕ) : Type 0 where
  pub block : 1 ≤ blocks
  pub blocks_most : blocks ≤ 256
  pub byte : 1 ≤ size
  pub size_most : size ≤ 32

pub shape_of : (blocks size : ℕ) → shape_fits blocks size ≡ true → Shape blocks size
unfolding shape_fits
shape_of blocks size e =
    let a = (and-eq-true_iff (leb 1 blocks) (leb blocks 256 && (leb 1 size && leb size 32))).0 e in
    let b = (and-eq-true_iff (leb blocks 256) (leb 1 size && leb size 32)).0 a.1 in
    let d = (and-eq-true_iff (leb 1 size) (leb size 32)).0 b.1 in
    record {
      block = leb-true 1 blocks a.0;
      blocks_most = leb-true blocks 256 b.0;
      byte = leb-true 1 size d.0;
      size_most = leb-true size 32 d.1;
    }

abbrev pub IsAccepted : Card → Type 0
IsAccepted c = is_accepted c ≡ true

sequence_accepted : (c : Card) → IsAccepted c → (s : Sequence) → sequence_fits s ≡ true → IsAccepted (in_sequence s c)
unfolding is_accepted in_sequence remade
sequence_accepted c a s e = rw ((tests_of c a).shape, e, (tests_of c a).held)

holding_accepted : (c : Card) → IsAccepted c → (h : Held) → held_fits h ≡ true → IsAccepted (holding h c)
unfolding is_accepted holding remade
holding_accepted c a h e = rw ((tests_of c a).shape, (tests_of c a).sequence, e)

pub accepted_changes : (frame : List ℕ) → Changes IsAccepted frame
unfolding is_accepted in_mode with_afi with_dsfid remade
accepted_changes frame =
    record {
      modes = λ c a m. a;
      sequences = sequence_accepted;
      holds = holding_accepted;
      writes_afi = λ c a unlocked at. a;
      locks_afi = λ c a. a;
      writes_dsfid = λ c a unlocked at. a;
      locks_dsfid = λ c a. a;
    }

pub marked_accepted : (c : Card) → IsAccepted c → IsAccepted (marked c).card
marked_accepted c a = marked_keeps (accepted_changes []) c a (tests_of c a).sequence

pub off_accepted : (c : Card) → IsAccepted c → IsAccepted (powered_off c)
off_accepted c a = off_keeps (accepted_changes []) c a
