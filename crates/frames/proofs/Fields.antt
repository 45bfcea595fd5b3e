-- Laws of fields of several bytes: their bytes one by one, their length, how large they are, and both round trips.
-- By induction over the bytes. Assumes nothing.
use mathlib.Core.Path.{◌≡◌, refl, ap, ◌∙◌}
use Prim.Native.Nat.{ℕ, zero, suc, ◌+◌, ◌-◌, ◌*◌, ◌/◌, ◌%◌, ◌^◌, ◌≤◌, ◌<◌, min}
use native.Mathlib.Nat.{add-zero, pow-suc, pow-le-pow_right}
use native.Mathlib.Omega.{arith}
use mathlib.Core.List.{List, [], ◌∷◌, ◌++◌, append-nil}
use lib.ListN.{length, take, drop, get_or, set, length-take}
use lib.Seq.{take_all, append_snoc, get_or-drop}
use Rattle.std.proofs.lemmas.List.{take_more_set}
use Rattle.lent.specs.Bytes.{Bytes}
use Rattle.lent.proofs.Bytes.{bytes_none, bytes_cons, bytes_take, bytes_drop}
use Rattle.frames.specs.Field.{field_of, field_bytes, field_at}

pub length_field_bytes : (count value : ℕ) → length (field_bytes count value) ≡ count
unfolding field_bytes
length_field_bytes zero value = refl
length_field_bytes (suc count) value = ap suc (length_field_bytes count (value / 256))

-- the bytes that stand up to place i, and those of the value that is left: a byte leaves it for place i, and at the end none is to come
pub filled_more : (n i : ℕ) (s : List ℕ) (left : ℕ) → i < length s → i < n
    → take (i + 1) (set s i (left % 256)) ++ field_bytes (n - (i + 1)) (left / 256) ≡ take i s ++ field_bytes (n - i) left
unfolding field_bytes
filled_more n i s left h k =
    let more : n - i ≡ suc (n - (i + 1)) = omega arith in
    rw (more, take_more_set s i (left % 256) h) (append_snoc (take i s) (left % 256) (field_bytes (n - (i + 1)) (left / 256)))

pub filled_all : (n i : ℕ) (s : List ℕ) (left : ℕ) → length s ≤ i → n ≤ i → take i s ++ field_bytes (n - i) left ≡ s
unfolding field_bytes
filled_all n i s left h k =
    let none : n - i ≡ 0 = omega arith in
    rw (none, take_all i s h) (append-nil s)

-- a field of one byte is that byte, 0 past the end of the frame
pub field_of_one : (frame : List ℕ) (at : ℕ) → field_at frame at 1 ≡ get_or frame at 0
unfolding field_at field_of
field_of_one frame at = go (drop at frame) ∙ rw (get_or-drop, add-zero)
  where
    go : (s : List ℕ) → field_of (take 1 s) ≡ get_or s 0 0
    go [] = refl
    go (b ∷ s) = omega arith

-- ---- of bytes

pub field_bytes_are_bytes : (count value : ℕ) → Bytes (field_bytes count value)
unfolding field_bytes
field_bytes_are_bytes zero value = bytes_none
field_bytes_are_bytes (suc count) value =
    bytes_cons (value % 256) (field_bytes count (value / 256)) (omega arith) (field_bytes_are_bytes count (value / 256))

-- how large a number of so many bytes is
pub field_of_below : (bs : List ℕ) → Bytes bs → field_of bs < 256 ^ length bs
unfolding field_of
field_of_below [] h = omega arith
field_of_below (b ∷ bs) h =
    let power : 256 ^ suc (length bs) ≡ 256 ^ length bs * 256 = pow-suc 256 (length bs) in
    omega (arith, h 0, field_of_below bs (λ i. h (suc i)))

pub field_below : (frame : List ℕ) (at count : ℕ) → Bytes frame → field_at frame at count < 256 ^ 8
unfolding field_at
field_below frame at count h =
    let part : List ℕ = take (min 8 count) (drop at frame) in
    let few : length part ≤ 8 = rw length-take (omega arith) in
    let most : 256 ^ length part ≤ 256 ^ 8 = pow-le-pow_right {n = 256} (omega arith) {i = length part} {j = 8} few in
    omega (arith, field_of_below part (bytes_take (min 8 count) (drop at frame) (bytes_drop at frame h)), most)

-- ---- both round trips

-- a value that fits comes back from its bytes
pub field_of_bytes : (count value : ℕ) → value < 256 ^ count → field_of (field_bytes count value) ≡ value
unfolding field_of field_bytes
field_of_bytes zero value h = omega arith
field_of_bytes (suc count) value h =
    let power : 256 ^ suc count ≡ 256 ^ count * 256 = pow-suc 256 count in
    let upper_fits : value / 256 < 256 ^ count = omega arith in
    rw (field_of_bytes count (value / 256) upper_fits) (omega arith)

-- and bytes come back from their value
pub bytes_of_field : (bs : List ℕ) → Bytes bs → field_bytes (length bs) (field_of bs) ≡ bs
unfolding field_of field_bytes
bytes_of_field [] h = refl
bytes_of_field (b ∷ bs) h =
    let low : b < 256 = h 0 in
    let here : (b + 256 * field_of bs) % 256 ≡ b = omega arith in
    let rest : (b + 256 * field_of bs) / 256 ≡ field_of bs = omega arith in
    rw (here, rest, bytes_of_field bs (λ i. h (suc i)))
