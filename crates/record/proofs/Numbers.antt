-- A card that number 1 accepts fits its record if its UID does; the numbers that no refusal judges fit in a card that was read from bytes, and
-- each change of the record keeps them. Number by number. Assumes nothing.
use mathlib.Core.Path.{◌≡◌, refl}
use mathlib.Core.Bool.{Bool, true, false, cond, ◌&&◌, ◌||◌, and-eq-true_iff, false≢true}
use mathlib.Core.List.{List, []}
use Prim.Native.Nat.{ℕ, ◌^◌, ◌≤◌, ◌<◌}
use native.Mathlib.Omega.{arith}
use borrow.Author.Tests.{eqb-true, leb-true, ltb-true}
use lib.Dec.{eqb, leb, ltb}
use lib.ListN.{length}
use lib.Pow.{pow_mono}
use Rattle.lent.specs.Bytes.{Bytes}
use Rattle.lent.proofs.Bytes.{bytes_none}
use Rattle.frames.proofs.Fields.{field_below}
use Rattle.card.specs.declared.Card.{Card}
use Rattle.card.specs.declared.Sequence.{Sequence}
use Rattle.card.specs.declared.Sequence.TheVariants.{Idle, Running}
use Rattle.card.specs.declared.Held.TheVariants.{Code}
use Rattle.card.specs.Record.{sequence_fits, held_fits, is_accepted, remade, in_mode, in_sequence, holding, with_afi, with_dsfid}
use Rattle.card.proofs.Changes.{Changes}
use Rattle.card.proofs.Accepted.{Tests, tests_of, Shape, shape_of}
use Rattle.record.specs.Record.{card_of, card_read, record_length, fields_of}
use Rattle.record.specs.Fits.{Fits}

-- ---- the numbers that number 1 judges

pub record Sequenced (s : Sequence) : Type 0 where
  pub running : (fields_of s).running < 256
  pub slot : (fields_of s).slot < 256
  pub length : (fields_of s).length < 256
  pub mask : (fields_of s).mask < 256 ^ 8

pub sequenced : (s : Sequence) → sequence_fits s ≡ true → Sequenced s
unfolding sequence_fits fields_of
sequenced Idle e = record { running = omega arith; slot = omega arith; length = omega arith; mask = omega arith }
sequenced (Running slot n mask) e =
    let first = (and-eq-true_iff (leb slot 15) (leb n 60 && ltb mask (2 ^ n))).0 e in
    let rest = (and-eq-true_iff (leb n 60) (ltb mask (2 ^ n))).0 first.1 in
    let s : slot ≤ 15 = leb-true slot 15 first.0 in
    let l : n ≤ 60 = leb-true n 60 rest.0 in
    let m : mask < 2 ^ n = ltb-true mask (2 ^ n) rest.1 in
    let p : 2 ^ n ≤ 2 ^ 60 = pow_mono l in
    record { running = omega arith; slot = omega arith; length = omega arith; mask = omega arith }

pub held_code : (code : ℕ) → held_fits (Code code) ≡ true → (2 ≤ code) × (code < 256)
unfolding held_fits
held_code code e = go (eqb code 0x02) (eqb code 0x10) (eqb code 0x11) (eqb code 0x12) refl refl refl refl e
  where
    go : (a b d f : Bool) → eqb code 0x02 ≡ a → eqb code 0x10 ≡ b → eqb code 0x11 ≡ d → eqb code 0x12 ≡ f → (a || (b || (d || f))) ≡ true
        → (2 ≤ code) × (code < 256)
    go true b d f p q r s e = let is = eqb-true code 0x02 p in (omega arith, omega arith)
    go false true d f p q r s e = let is = eqb-true code 0x10 q in (omega arith, omega arith)
    go false false true f p q r s e = let is = eqb-true code 0x11 r in (omega arith, omega arith)
    go false false false true p q r s e = let is = eqb-true code 0x12 s in (omega arith, omega arith)
    go false false false false p q r s e = absurd (false≢true e)

pub accepted_fits : (c : Card) → is_accepted c ≡ true → c.uid < 256 ^ 8 → Fits c
accepted_fits c a u =
    let tests : Tests c = tests_of c a in
    let shape : Shape c.blocks c.size = shape_of c.blocks c.size tests.shape in
    record {
      uid = u;
      blocks = omega (arith, shape.blocks_most);
      size = omega (arith, shape.size_most);
      mask = (sequenced c.sequence tests.sequence).mask;
      code = λ code is. (held_code code (rw is at tests.held)).0;
    }

-- ---- the others

pub record Numbers (c : Card) : Type 0 where
  pub uid : c.uid < 256 ^ 8
  pub afi : c.afi < 256
  pub dsfid : c.dsfid < 256
  pub ic_reference : c.ic_reference < 256

pub numbers_changes : (frame : List ℕ) → Bytes frame → Changes Numbers frame
unfolding in_mode in_sequence holding with_afi with_dsfid remade
numbers_changes frame bs =
    record {
      modes = λ c n m. with_both c n _ refl refl n.afi n.dsfid;
      sequences = λ c n s e. with_both c n _ refl refl n.afi n.dsfid;
      holds = λ c n h e. with_both c n _ refl refl n.afi n.dsfid;
      writes_afi = λ c n e at. with_both c n _ refl refl (bs at) n.dsfid;
      locks_afi = λ c n. with_both c n _ refl refl n.afi n.dsfid;
      writes_dsfid = λ c n e at. with_both c n _ refl refl n.afi (bs at);
      locks_dsfid = λ c n. with_both c n _ refl refl n.afi n.dsfid;
    }
  where
    with_both : (c : Card) → Numbers c → (d : Card) → d.uid ≡ c.uid → d.ic_reference ≡ c.ic_reference → d.afi < 256 → d.dsfid < 256 → Numbers d
    with_both c n d u i a f = record { uid = rw u n.uid; afi = a; dsfid = f; ic_reference = rw i n.ic_reference }

numbers_of : (bytes : List ℕ) → Bytes bytes → Numbers (card_of bytes)
unfolding card_of
numbers_of bytes bs = record { uid = field_below bytes 0 8 bs; afi = bs 16; dsfid = bs 17; ic_reference = bs 20 }

pub numbers_read : (bytes : List ℕ) → Bytes bytes → Numbers (card_read bytes)
unfolding card_read
numbers_read bytes bs = go (eqb (length bytes) record_length)
  where
    go : (b : Bool) → Numbers (cond b (card_of bytes) (card_of []))
    go true = numbers_of bytes bs
    go false = numbers_of [] bytes_none
