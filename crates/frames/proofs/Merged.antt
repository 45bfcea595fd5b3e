-- A field read from its last byte to its first: each byte is put below those that were read. By induction over the bytes. Assumes nothing.
use mathlib.Core.Path.{◌≡◌, refl, ap, ◌∙◌}
use mathlib.Core.List.{List, [], ◌∷◌, reverse, reverse-cons}
use Prim.Native.Nat.{ℕ, suc, ◌+◌, ◌-◌, ◌*◌, ◌%◌, ◌^◌, ◌≤◌, ◌<◌, min}
use native.Mathlib.Nat.{pow-le-pow_right, min_comm}
use native.Mathlib.Omega.{arith}
use lib.Bits.{bit_or, or_shifted}
use lib.ListN.{length, take, drop, length-take, length-drop}
use lib.Seq.{take-length}
use Rattle.std.specs.List.{fold}
use Rattle.std.proofs.lemmas.List.{take_min, drop_min}
use Rattle.std.proofs.lemmas.List.Sums.{fold-append}
use Rattle.lent.specs.Bytes.{Bytes}
use Rattle.lent.proofs.Bytes.{bytes_take, bytes_drop}
use Rattle.frames.specs.Field.{field_of, field_at}
use Rattle.frames.proofs.Fields.{field_of_below}

-- a byte below those that were read
abbrev pub merged : ℕ → ℕ → ℕ
merged upper byte = bit_or (upper * 2 ^ 8 % 2 ^ 64) byte

merged_is : (upper byte : ℕ) → upper < 2 ^ 56 → byte < 256 → merged upper byte ≡ byte + 256 * upper
merged_is upper byte h k =
    let whole : upper * 2 ^ 8 % 2 ^ 64 ≡ upper * 2 ^ 8 = omega arith in
    rw whole (or_shifted upper 8 byte k ∙ omega arith)

pub field_of_merged : (bs : List ℕ) → Bytes bs → length bs ≤ 8 → fold merged 0 (reverse bs) ≡ field_of bs
unfolding field_of
field_of_merged [] h k = refl
field_of_merged (b ∷ bs) h k =
    let rest : Bytes bs = λ i. h (suc i) in
    let most : 256 ^ length bs ≤ 256 ^ 7 = pow-le-pow_right {n = 256} (omega arith) {i = length bs} {j = 7} (omega arith) in
    let upper : field_of bs < 2 ^ 56 = omega (arith, field_of_below bs rest, most) in
    ap (fold merged 0) (reverse-cons b bs)
    ∙ fold-append merged 0 (reverse bs) (b ∷ [])
    ∙ ap (λ (n : ℕ). merged n b) (field_of_merged bs rest (omega arith))
    ∙ merged_is (field_of bs) b upper (h 0)

-- the field at a place, by the bounds that the code takes: where the field starts and how many bytes of the rest it has
pub field_at_merged : (frame : List ℕ) (at count : ℕ) {start most n : ℕ} → Bytes frame → start ≡ min at (length frame) → most ≡ min count 8
    → n ≡ min most (length (take (length frame - start) (drop start frame)))
    → fold merged 0 (reverse (take n (take (length frame - start) (drop start frame)))) ≡ field_at frame at count
unfolding field_at
field_at_merged frame at count {start} {most} {n} bytes a b d =
    let rest : List ℕ = take (length frame - start) (drop start frame) in
    let whole : rest ≡ drop start frame = rw (← length-drop start frame) (take-length (drop start frame)) in
    let all : rest ≡ drop at frame = whole ∙ ap (λ (i : ℕ). drop i frame) a ∙ drop_min at frame in
    let eight : most ≡ min 8 count = b ∙ min_comm count 8 in
    let part : take n rest ≡ take (min 8 count) (drop at frame) = ap (λ (i : ℕ). take i rest) d ∙ take_min most rest ∙ rw (all, eight) in
    rw part (field_of_merged (take (min 8 count) (drop at frame)) (bytes_take (min 8 count) (drop at frame) (bytes_drop at frame bytes)) (rw length-take (omega arith)))
