-- A card that number 1 accepts is written as bytes, if the numbers that no refusal judges fit. Byte by byte. Assumes nothing.
use mathlib.Core.Path.{◌≡◌}
use mathlib.Core.Bool.{Bool, true, false}
use mathlib.Core.List.{List, [], ◌∷◌, ◌++◌}
use Prim.Native.Nat.{ℕ, ◌<◌}
use native.Mathlib.Omega.{arith}
use Rattle.lent.specs.Bytes.{Bytes}
use Rattle.lent.specs.Lent.{over}
use Rattle.lent.proofs.Bytes.{bytes_none, bytes_cons, bytes_append, bytes_over, bytes_placed}
use Rattle.frames.specs.Field.{field_bytes}
use Rattle.frames.proofs.Fields.{field_bytes_are_bytes}
use Rattle.card.specs.declared.Card.{Card}
use Rattle.card.specs.declared.Mode.{Mode}
use Rattle.card.specs.declared.Mode.TheVariants.{Ready, Quiet, Selected}
use Rattle.card.specs.declared.Held.{Held}
use Rattle.card.specs.declared.Held.TheVariants.{Free, Success, Code}
use Rattle.card.specs.Record.{held_fits, is_accepted}
use Rattle.card.proofs.Accepted.{tests_of}
use Rattle.record.specs.Record.{flag_byte, mode_byte, fields_of, held_byte, state_bytes, front_bytes, record_of}
use Rattle.record.proofs.Numbers.{Sequenced, sequenced, held_code, Numbers}

flag_below : (b : Bool) → flag_byte b < 256
unfolding flag_byte
flag_below true = omega arith
flag_below false = omega arith

mode_below : (m : Mode) → mode_byte m < 256
unfolding mode_byte
mode_below Ready = omega arith
mode_below Quiet = omega arith
mode_below Selected = omega arith

held_below : (h : Held) → held_fits h ≡ true → held_byte h < 256
unfolding held_byte
held_below Free e = omega arith
held_below Success e = omega arith
held_below (Code code) e = (held_code code e).1

-- each byte of a list in its turn
unfoldable All : List ℕ → Type 0
All [] = Unit {0}
All (b ∷ s) = (b < 256) × All s

bytes_of_all : (s : List ℕ) → All s → Bytes s
unfolding All
bytes_of_all [] h = bytes_none
bytes_of_all (b ∷ s) h = bytes_cons b s h.0 (bytes_of_all s h.1)

state_bytes_lem : (c : Card) → is_accepted c ≡ true → Numbers c → Bytes (state_bytes c)
unfolding state_bytes All
state_bytes_lem c a n =
    let s : Sequenced c.sequence = sequenced c.sequence (tests_of c a).sequence in
    bytes_of_all (state_bytes c) (
      n.afi,
      (
        n.dsfid,
        (
          flag_below c.afi_locked,
          (
            flag_below c.dsfid_locked,
            (
              n.ic_reference,
              (
                mode_below c.mode,
                (s.running, (s.slot, (s.length, (held_below c.held (tests_of c a).held, tt)))),
              ),
            ),
          ),
        ),
      ),
    )

pub record_bytes : (c : Card) (found : List ℕ) → is_accepted c ≡ true → Numbers c → Bytes found → Bytes (record_of c found)
unfolding record_of front_bytes
record_bytes c found a n bs =
    let uid : List ℕ = field_bytes 8 c.uid in
    let blocks : List ℕ = field_bytes 4 c.blocks in
    let size : List ℕ = field_bytes 4 c.size in
    let front : Bytes (uid ++ blocks ++ size ++ state_bytes c) =
    bytes_append (uid ++ blocks ++ size) (state_bytes c)
    (bytes_append (uid ++ blocks) size (bytes_append uid blocks (field_bytes_are_bytes 8 c.uid) (field_bytes_are_bytes 4 c.blocks)) (field_bytes_are_bytes 4 c.size))
    (state_bytes_lem c a n) in
    bytes_placed 32 (field_bytes 8 (fields_of c.sequence).mask) (over (front_bytes c) found) (field_bytes_are_bytes 8 (fields_of c.sequence).mask)
    (bytes_over (front_bytes c) found front bs)
