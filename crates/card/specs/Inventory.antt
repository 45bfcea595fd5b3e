-- 01, The card, step 3: "b3=1".
use Rattle.std.specs.Prelude.{ℕ, ◌+◌, ◌/◌, ◌%◌, ◌^◌, Bool, true, false, cond, not, ◌&&◌, ◌||◌, List, leb, eqb, length, get_or}
use Rattle.frames.specs.declared.Flags.{Flags}
use Rattle.frames.specs.Flags.{has_afi, one_slot, sets_inventory_reserved}
use Rattle.frames.specs.Field.{field_at}
use Rattle.slots.specs.Fits.{mask_bytes, fits_mask, fits_slot}
use Rattle.card.specs.declared.Card.{Card}
use Rattle.card.specs.declared.Turn.{Turn}
use Rattle.card.specs.declared.Reply.{Reply}
use Rattle.card.specs.declared.Reply.TheVariants.{Silence, Present}
use Rattle.card.specs.declared.Sequence.TheVariants.{Running}
use Rattle.card.specs.Record.{is_quiet, in_sequence}

abbrev pub turn : Card → Reply → Turn
turn c reply = record { card = c; reply = reply }

-- silence: nothing but what any frame does
abbrev pub still : Card → Turn
still c = turn c Silence

-- "Body: AFI if present, mask length, then the mask in as few bytes as hold it.": the place of the mask length
unfoldable pub length_place : Flags → ℕ
length_place f = cond (has_afi f) 3 2

-- "mask length over 60 (sixteen slots) or 64 (one)"
unfoldable pub mask_limit : Flags → ℕ
mask_limit f = cond (one_slot f) 64 60

-- "Bits above the mask length are ignored."
unfoldable pub mask_of : Flags → List ℕ → ℕ → ℕ
mask_of f frame n = field_at frame (length_place f + 1) (mask_bytes n) % 2 ^ n

-- "or a wrong total length": flags, command, AFI if present, mask length, mask, check
unfoldable pub total_length : Flags → ℕ → ℕ
total_length f n = length_place f + 1 + mask_bytes n + 2

-- 02, W2: "an asked AFI with a high digit and a zero low digit matches every card with that high digit; 00 matches all; any other matches only itself"
unfoldable pub fits_family : ℕ → ℕ → Bool
fits_family asked own = cond (eqb (asked % 16) 0) (eqb asked 0x00 || eqb (asked / 16) (own / 16)) (eqb asked own)

-- "The card takes part if no AFI is present", or the one that is there matches it
unfoldable pub takes_part : Card → Flags → List ℕ → Bool
takes_part c f frame = cond (has_afi f) (fits_family (get_or frame 2 0) c.afi) true

unfoldable pub present : Bool → Reply
present true = Present
present false = Silence

-- a card that takes part: "With sixteen slots a sequence starts at slot 0"; "With one slot only the mask counts."; "Mode stays."
unfoldable pub joins : Card → Flags → List ℕ → ℕ → Turn
joins c f frame n =
    cond (one_slot f)
    (turn c (present (fits_mask c.uid n (mask_of f frame n))))
    (turn (in_sequence (Running 0 n (mask_of f frame n)) c) (present (fits_slot c.uid n (mask_of f frame n) 0)))

-- "b3=1: Quiet, a command other than 01, mask length over 60 (sixteen slots) or 64 (one), or a wrong total length: silence."; step 2: "b7 must be 0"
unfoldable pub is_inventory : Card → Flags → List ℕ → ℕ → Bool
is_inventory c f frame n =
    not (sets_inventory_reserved f)
    && (not (is_quiet c.mode) && (eqb (get_or frame 1 0) 0x01 && (leb n (mask_limit f) && eqb (length frame) (total_length f n))))

-- a card that takes part; "else silence and no sequence"
unfoldable pub inventoried : Card → Flags → List ℕ → Turn
inventoried c f frame =
    let n : ℕ = get_or frame (length_place f) 0 in
    cond (is_inventory c f frame n && takes_part c f frame) (joins c f frame n) (still c)
