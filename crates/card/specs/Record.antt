-- 01, The card: the record, which ones number 1 refuses, and each way in which it changes.
use Rattle.std.specs.Prelude.{ℕ, ◌^◌, Bool, true, false, ◌&&◌, ◌||◌, leb, ltb, eqb}
use Rattle.card.specs.declared.Card.{Card}
use Rattle.card.specs.declared.Mode.{Mode}
use Rattle.card.specs.declared.Mode.TheVariants.{Ready, Quiet, Selected}
use Rattle.card.specs.declared.Sequence.{Sequence}
use Rattle.card.specs.declared.Sequence.TheVariants.{Idle, Running}
use Rattle.card.specs.declared.Held.{Held}
use Rattle.card.specs.declared.Held.TheVariants.{Free, Success, Code}

-- ---- Numbers of refused calls, 1

-- "shape outside limits"; "Shape: 1 to 256 blocks of 1 to 32 bytes"
unfoldable pub shape_fits : ℕ → ℕ → Bool
shape_fits blocks size = leb 1 blocks && (leb blocks 256 && (leb 1 size && leb size 32))

-- "a running sequence's slot over 15, mask length over 60 or mask bits above it"
unfoldable pub sequence_fits : Sequence → Bool
sequence_fits Idle = true
sequence_fits (Running slot n mask) = leb slot 15 && (leb n 60 && ltb mask (2 ^ n))

-- "a held code other than 02, 10, 11, 12"; "A held answer is success or an error code 02, 10, 11 or 12."
unfoldable pub held_fits : Held → Bool
held_fits Free = true
held_fits Success = true
held_fits (Code code) = eqb code 0x02 || (eqb code 0x10 || (eqb code 0x11 || eqb code 0x12))

-- number 1: "card record"
unfoldable pub is_accepted : Card → Bool
is_accepted c = shape_fits c.blocks c.size && (sequence_fits c.sequence && held_fits c.held)

-- ---- the changes: shape, UID and IC reference never do

unfoldable pub remade : Card → ℕ → ℕ → Bool → Bool → Mode → Sequence → Held → Card
remade c afi dsfid afiLocked dsfidLocked mode sequence held =
    record {
      blocks = c.blocks;
      size = c.size;
      uid = c.uid;
      afi = afi;
      dsfid = dsfid;
      afi_locked = afiLocked;
      dsfid_locked = dsfidLocked;
      ic_reference = c.ic_reference;
      mode = mode;
      sequence = sequence;
      held = held;
    }

-- "Any frame, good or bad, first ends the sequence and drops a held answer."
unfoldable pub cleared : Card → Card
cleared c = remade c c.afi c.dsfid c.afi_locked c.dsfid_locked c.mode Idle Free

unfoldable pub in_mode : Mode → Card → Card
in_mode mode c = remade c c.afi c.dsfid c.afi_locked c.dsfid_locked mode c.sequence c.held

unfoldable pub in_sequence : Sequence → Card → Card
in_sequence sequence c = remade c c.afi c.dsfid c.afi_locked c.dsfid_locked c.mode sequence c.held

unfoldable pub holding : Held → Card → Card
holding held c = remade c c.afi c.dsfid c.afi_locked c.dsfid_locked c.mode c.sequence held

-- AFI and DSFID with their locks
unfoldable pub with_afi : ℕ → Bool → Card → Card
with_afi afi locked c = remade c afi c.dsfid locked c.dsfid_locked c.mode c.sequence c.held

unfoldable pub with_dsfid : ℕ → Bool → Card → Card
with_dsfid dsfid locked c = remade c c.afi dsfid c.afi_locked locked c.mode c.sequence c.held

-- "Power off: mode Ready, sequence and held answer gone, the rest stays."
unfoldable pub powered_off : Card → Card
powered_off c = in_mode Ready (cleared c)

-- ---- the modes

unfoldable pub is_quiet : Mode → Bool
is_quiet Ready = false
is_quiet Quiet = true
is_quiet Selected = false

unfoldable pub is_selected : Mode → Bool
is_selected Ready = false
is_selected Quiet = false
is_selected Selected = true
