-- A round's request as a card parses it: its first bytes, its length, its mask.
-- By the two heads that a request may have, and the round trip of a field. Assumes nothing.
use mathlib.Core.Path.{◌≡◌, refl, sym, ap, ◌∙◌}
use mathlib.Core.Bool.{Bool, true, false, cond, not, ◌&&◌}
use Prim.Native.Nat.{ℕ, zero, suc, ◌+◌, ◌*◌, ◌/◌, ◌%◌, ◌^◌, ◌≤◌, ◌<◌, min}
use native.Mathlib.Nat.{lt_of_lt_of_le, pow-succ', mod-eq_of_lt}
use native.Mathlib.Omega.{arith}
use mathlib.Core.List.{List, ◌∷◌, ◌++◌}
use borrow.Author.Tests.{eq-eqb, le-leb}
use lib.ListN.{length, take, length-append}
use lib.Pow.{pow-add, pow_mono}
use lib.Seq.{take-append_seam}
use Rattle.frames.specs.Flags.{flags_of}
use Rattle.frames.specs.Field.{field_of, field_bytes, field_at}
use Rattle.frames.proofs.Fields.{length_field_bytes, field_of_bytes}
use Rattle.card.specs.declared.Card.{Card}
use Rattle.card.specs.declared.Turn.{Turn}
use Rattle.card.specs.declared.Sequence.TheVariants.{Running}
use Rattle.card.specs.Record.{is_quiet, in_sequence}
use Rattle.card.specs.Inventory.{turn, still, length_place, mask_limit, mask_of, total_length}
use Rattle.slots.specs.Fits.{mask_bytes, fits_slot}
use Rattle.card.specs.Inventory.{fits_family, takes_part, present, joins, is_inventory, inventoried}

-- eight bits are a byte
bytes_of_bits : (k : ℕ) → 2 ^ (8 * k) ≡ 256 ^ k
bytes_of_bits zero = refl
bytes_of_bits (suc k) =
    let eight : 8 * suc k ≡ 8 + 8 * k = omega arith in
    ap (λ (n : ℕ). 2 ^ n) eight ∙ pow-add 2 8 (8 * k) ∙ ap (λ (x : ℕ). 256 * x) (bytes_of_bits k) ∙ sym (pow-succ' 256 k)

-- a mask of n bits fits its bytes
mask_fits_bytes : (n mask : ℕ) → mask < 2 ^ n → mask < 256 ^ mask_bytes n
unfolding mask_bytes
mask_fits_bytes n mask h = rw (← bytes_of_bits ((n + 7) / 8)) (lt_of_lt_of_le h (pow_mono (omega arith)))

few_bytes : (n : ℕ) → n ≤ 60 → min 8 (mask_bytes n) ≡ mask_bytes n
unfolding mask_bytes
few_bytes n h = omega arith

-- and is read back from them, whatever follows
mask_back : (n mask : ℕ) (rest : List ℕ) → n ≤ 60 → mask < 2 ^ n
    → field_of (take (min 8 (mask_bytes n)) (field_bytes (mask_bytes n) mask ++ rest)) % 2 ^ n ≡ mask
mask_back n mask rest h g =
    let bytes : List ℕ = field_bytes (mask_bytes n) mask in
    let few : min 8 (mask_bytes n) ≡ length bytes = few_bytes n h ∙ sym (length_field_bytes (mask_bytes n) mask) in
    rw (few, take-append_seam bytes rest, field_of_bytes (mask_bytes n) mask (mask_fits_bytes n mask g)) (mod-eq_of_lt g)

-- the mask's bytes and the check
mask_length_lem : (n mask : ℕ) (rest : List ℕ) → length rest ≡ 2 → length (field_bytes (mask_bytes n) mask ++ rest) ≡ mask_bytes n + 2
mask_length_lem n mask rest e = length-append (field_bytes (mask_bytes n) mask) rest ∙ omega (arith, length_field_bytes (mask_bytes n) mask)

-- a card that takes part starts a sequence
unfoldable pub joined : Bool → Card → ℕ → ℕ → Turn
joined part c n mask = cond part (turn (in_sequence (Running 0 n mask) c) (present (fits_slot c.uid n mask 0))) (still c)

takes_part_lem : (quiet fits : Bool) → ((not quiet && true) && fits) ≡ (not quiet && fits)
takes_part_lem true fits = refl
takes_part_lem false fits = refl

-- with a family
pub family_parsed : (c : Card) (family n mask : ℕ) (rest : List ℕ) → length rest ≡ 2 → n ≤ 60 → mask < 2 ^ n
    → inventoried c (flags_of 0x16) (0x16 ∷ 0x01 ∷ family ∷ n ∷ (field_bytes (mask_bytes n) mask ++ rest))
    ≡ joined (not (is_quiet c.mode) && fits_family family c.afi) c n mask
unfolding inventoried is_inventory takes_part joins flags_of length_place mask_limit mask_of total_length field_at joined
family_parsed c family n mask rest e h g =
    let bytes : List ℕ = field_bytes (mask_bytes n) mask ++ rest in
    let total : suc (suc (suc (suc (length bytes)))) ≡ 4 + mask_bytes n + 2 = omega (arith, mask_length_lem n mask rest e) in
    rw (le-leb n 60 h, eq-eqb _ _ total, mask_back n mask rest h g, takes_part_lem)

-- with none
pub none_parsed : (c : Card) (n mask : ℕ) (rest : List ℕ) → length rest ≡ 2 → n ≤ 60 → mask < 2 ^ n
    → inventoried c (flags_of 0x06) (0x06 ∷ 0x01 ∷ n ∷ (field_bytes (mask_bytes n) mask ++ rest)) ≡ joined (not (is_quiet c.mode) && true) c n mask
unfolding inventoried is_inventory takes_part joins flags_of length_place mask_limit mask_of total_length field_at joined
none_parsed c n mask rest e h g =
    let bytes : List ℕ = field_bytes (mask_bytes n) mask ++ rest in
    let total : suc (suc (suc (length bytes))) ≡ 3 + mask_bytes n + 2 = omega (arith, mask_length_lem n mask rest e) in
    rw (le-leb n 60 h, eq-eqb _ _ total, mask_back n mask rest h g, takes_part_lem)
