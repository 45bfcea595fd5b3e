-- A card that is put into the bytes of its record is read back from them, if its numbers fit their fields. Field by field; the bytes before
-- the mask compute. Assumes nothing.
use mathlib.Core.Path.{◌≡◌, refl, ap, ◌∙◌}
use mathlib.Core.Bool.{Bool, true, false}
use mathlib.Core.List.{List, ◌++◌}
use Prim.Native.Nat.{ℕ, ◌+◌, ◌≤◌}
use native.Mathlib.Omega.{arith}
use borrow.Author.Tests.{eq-eqb, ne_eqb}
use lib.ListN.{length, take, drop}
use lib.Seq.{length-take-le, take_at, drop_at}
use mathlib.Core.List.{append_assoc}
use Rattle.lent.specs.Lent.{over, placed}
use Rattle.lent.proofs.Over.{length_over, length_placed}
use Rattle.frames.specs.Field.{field_of, field_bytes, field_at}
use Rattle.frames.proofs.Fields.{field_of_bytes, length_field_bytes}
use Rattle.card.specs.declared.Card.{Card}
use Rattle.card.specs.declared.Mode.{Mode}
use Rattle.card.specs.declared.Mode.TheVariants.{Ready, Quiet, Selected}
use Rattle.card.specs.declared.Sequence.{Sequence}
use Rattle.card.specs.declared.Sequence.TheVariants.{Idle, Running}
use Rattle.card.specs.declared.Held.{Held}
use Rattle.card.specs.declared.Held.TheVariants.{Free, Success, Code}
use Rattle.record.specs.Record.{flag_of, mode_of, sequence_of, held_of, card_of, flag_byte, mode_byte, fields_of, held_byte, state_bytes, front_bytes, record_of, record_length, card_read, write_leaves}
use Rattle.record.specs.Fits.{Fits}
use Rattle.record.proofs.Putting.{length_front}

flag_back : (b : Bool) → flag_of (flag_byte b) ≡ b
unfolding flag_of flag_byte
flag_back true = refl
flag_back false = refl

mode_back : (m : Mode) → mode_of (mode_byte m) ≡ m
unfolding mode_of mode_byte
mode_back Ready = refl
mode_back Quiet = refl
mode_back Selected = refl

sequence_back : (s : Sequence) → sequence_of (fields_of s).running (fields_of s).slot (fields_of s).length (fields_of s).mask ≡ s
unfolding sequence_of fields_of
sequence_back Idle = refl
sequence_back (Running slot n mask) = refl

held_back : (h : Held) → ((code : ℕ) → h ≡ Code code → 2 ≤ code) → held_of (held_byte h) ≡ h
unfolding held_of held_byte
held_back Free k = refl
held_back Success k = refl
held_back (Code code) k =
    let above : 2 ≤ code = k code refl in
    rw (ne_eqb code 0 (λ e. absurd (omega arith)), ne_eqb code 1 (λ e. absurd (omega arith)))

module _ (c : Card) (found : List ℕ) (is : length found ≡ 40) where
  uid_back : field_at (record_of c found) 0 8 ≡ field_of (field_bytes 8 c.uid)
  unfolding record_of placed over front_bytes state_bytes field_bytes field_at
  uid_back = refl

  blocks_back : field_at (record_of c found) 8 4 ≡ field_of (field_bytes 4 c.blocks)
  unfolding record_of placed over front_bytes state_bytes field_bytes field_at
  blocks_back = refl

  size_back : field_at (record_of c found) 12 4 ≡ field_of (field_bytes 4 c.size)
  unfolding record_of placed over front_bytes state_bytes field_bytes field_at
  size_back = refl

  mask_back : field_at (record_of c found) 32 8 ≡ field_of (field_bytes 8 (fields_of c.sequence).mask)
  unfolding record_of placed field_at
  mask_back =
      let x : List ℕ = over (front_bytes c) found in
      let m : List ℕ = field_bytes 8 (fields_of c.sequence).mask in
      let all : length x ≡ length found = length_over (front_bytes c) found (omega (arith, length_front c)) in
      let before : length (take 32 x) ≡ 32 = length-take-le 32 x (omega arith) in
      let whole : (take 32 x ++ m) ++ drop (32 + length m) x ≡ take 32 x ++ (m ++ drop (32 + length m) x) =
      append_assoc (take 32 x) m (drop (32 + length m) x) in
      let from : drop 32 (take 32 x ++ (m ++ drop (32 + length m) x)) ≡ m ++ drop (32 + length m) x =
      drop_at (take 32 x) (m ++ drop (32 + length m) x) 32 before in
      ap (λ (l : List ℕ). field_of (take 8 (drop 32 l))) whole
      ∙ ap (λ (l : List ℕ). field_of (take 8 l)) from
      ∙ ap field_of (take_at m (drop (32 + length m) x) 8 (length_field_bytes 8 (fields_of c.sequence).mask))

  pub card_of_record : Fits c → card_of (record_of c found) ≡ c
  unfolding card_of record_of placed over front_bytes state_bytes field_bytes
  card_of_record fits =
      let u : field_at (record_of c found) 0 8 ≡ c.uid = uid_back ∙ field_of_bytes 8 c.uid fits.uid in
      let b : field_at (record_of c found) 8 4 ≡ c.blocks = blocks_back ∙ field_of_bytes 4 c.blocks fits.blocks in
      let s : field_at (record_of c found) 12 4 ≡ c.size = size_back ∙ field_of_bytes 4 c.size fits.size in
      let m : field_at (record_of c found) 32 8 ≡ (fields_of c.sequence).mask = mask_back ∙ field_of_bytes 8 (fields_of c.sequence).mask fits.mask in
      let q : sequence_of (fields_of c.sequence).running (fields_of c.sequence).slot (fields_of c.sequence).length (field_at (record_of c found) 32 8) ≡ c.sequence =
      ap (λ (v : ℕ). sequence_of (fields_of c.sequence).running (fields_of c.sequence).slot (fields_of c.sequence).length v) m
      ∙ sequence_back c.sequence in
      λ i.
      record {
        blocks = b i;
        size = s i;
        uid = u i;
        afi = c.afi;
        dsfid = c.dsfid;
        afi_locked = flag_back c.afi_locked i;
        dsfid_locked = flag_back c.dsfid_locked i;
        ic_reference = c.ic_reference;
        mode = mode_back c.mode i;
        sequence = q i;
        held = held_back c.held fits.code i;
      }

  pub length_record : length (record_of c found) ≡ 40
  unfolding record_of
  length_record =
      let m : List ℕ = field_bytes 8 (fields_of c.sequence).mask in
      let n : length m ≡ 8 = length_field_bytes 8 (fields_of c.sequence).mask in
      let all : length (over (front_bytes c) found) ≡ length found = length_over (front_bytes c) found (omega (arith, length_front c)) in
      length_placed 32 m (over (front_bytes c) found) (omega arith) ∙ all ∙ is

  -- the same of the calls
  pub read_of_record : Fits c → card_read (record_of c found) ≡ c
  unfolding card_read record_length
  read_of_record fits = rw (eq-eqb (length (record_of c found)) 40 length_record) (card_of_record fits)

  pub read_of_write : Fits c → card_read (write_leaves c found) ≡ c
  unfolding write_leaves record_length
  read_of_write fits = rw (eq-eqb (length found) 40 is) (read_of_record fits)
