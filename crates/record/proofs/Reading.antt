-- A card read from the bytes of its record, field by field. By the definition. Assumes nothing.
use mathlib.Core.Path.{◌≡◌, ap, ◌∙◌}
use mathlib.Core.List.{List}
use Prim.Native.Nat.{ℕ}
use lib.ListN.{get_or}
use Rattle.frames.specs.Field.{field_at}
use Rattle.card.specs.declared.Card.{Card}
use Rattle.card.specs.declared.Mode.{Mode}
use Rattle.card.specs.declared.Sequence.{Sequence}
use Rattle.card.specs.declared.Held.{Held}
use Rattle.record.specs.Record.{flag_of, mode_of, sequence_of, held_of, card_of}

pub card_read_lem : (bytes : List ℕ) {blocks size uid mask : ℕ} {mode : Mode} {sequence : Sequence} {held : Held} → blocks ≡ field_at bytes 8 4
    → size ≡ field_at bytes 12 4 → uid ≡ field_at bytes 0 8 → mode ≡ mode_of (get_or bytes 21 0)
    → sequence ≡ sequence_of (get_or bytes 22 0) (get_or bytes 23 0) (get_or bytes 24 0) mask → mask ≡ field_at bytes 32 8 → held ≡ held_of (get_or bytes 25 0)
    → ◌≡◌ {A = Card}
    (record {
      blocks = blocks;
      size = size;
      uid = uid;
      afi = get_or bytes 16 0;
      dsfid = get_or bytes 17 0;
      afi_locked = flag_of (get_or bytes 18 0);
      dsfid_locked = flag_of (get_or bytes 19 0);
      ic_reference = get_or bytes 20 0;
      mode = mode;
      sequence = sequence;
      held = held;
    })
    (card_of bytes)
unfolding card_of
card_read_lem bytes {mask} {sequence} p q u m s k h =
    let t : sequence ≡ sequence_of (get_or bytes 22 0) (get_or bytes 23 0) (get_or bytes 24 0) (field_at bytes 32 8) =
    s ∙ ap (λ (v : ℕ). sequence_of (get_or bytes 22 0) (get_or bytes 23 0) (get_or bytes 24 0) v) k in
    λ i.
    record {
      blocks = p i;
      size = q i;
      uid = u i;
      afi = get_or bytes 16 0;
      dsfid = get_or bytes 17 0;
      afi_locked = flag_of (get_or bytes 18 0);
      dsfid_locked = flag_of (get_or bytes 19 0);
      ic_reference = get_or bytes 20 0;
      mode = m i;
      sequence = t i;
      held = h i;
    }
