-- What a receiver sees of a message that is sealed, and of no other: the register left at F0B8. Two bytes go in as one number of sixteen bits, low byte first; over the
-- register it is all ones exactly if it is the check, and sixteen bits leave no two registers alike. Assumes nothing.
use mathlib.Core.Path.{◌≡◌, refl, sym, ap, ◌∙◌}
use mathlib.Core.Bool.{false}
use mathlib.Core.List.{List, [], ◌∷◌}
use Prim.Native.Nat.{ℕ, zero, suc, ◌+◌, ◌-◌, ◌*◌, ◌/◌, ◌%◌, ◌^◌, ◌≤◌, ◌<◌}
use native.Mathlib.Decide.{ℕ_discrete}
use native.Mathlib.Omega.{arith}
use borrow.Author.Tests.{eq-eqb, ne_eqb, le-leb}
use lib.Bits.{bit_xor, xor_lt, xor_self, xor_assoc, xor_comm, xor_shr, xor_shifted}
use lib.Dec.{eqb}
use lib.ListN.{length, get_or, take, drop, take-append-drop}
use Rattle.crc.specs.Check.{preset, polynomial, shifted, shifts, taken, register, check_of, is_check, is_sealed}
use Rattle.crc.proofs.Register.{register_append, register_fits, shifted_fits}
use Rattle.crc.proofs.Xor.{xor_twice, xor_nothing, xor_complement}
use Rattle.crc.proofs.Linear.{shifts_over, shifts_down}
use Rattle.crc.proofs.Seal.{check_joined, last_two}

-- no two registers of sixteen bits are left alike
shifted_nothing : (x : ℕ) → x < 65536 → shifted x ≡ 0 → x ≡ 0
unfolding shifted
shifted_nothing x h e = go (ℕ_discrete (x % 2) 1)
  where
    go : Dec (x % 2 ≡ 1) → x ≡ 0
    go (yes odd) =
        let over : bit_xor (x / 2) polynomial ≡ 0 = rw (eq-eqb (x % 2) 1 odd) at e in
        let same : x / 2 ≡ 0x8408 = xor_nothing (x / 2) polynomial over in
        absurd (omega (arith, h, same))
    go (no even) =
        let half : x / 2 ≡ 0 = rw (ne_eqb (x % 2) 1 even) at e in
        omega (arith, half, even)

shifts_nothing : (n x : ℕ) → x < 65536 → shifts n x ≡ 0 → x ≡ 0
unfolding shifts
shifts_nothing zero x h e = e
shifts_nothing (suc n) x h e = shifted_nothing x h (shifts_nothing n (shifted x) (shifted_fits x h) e)

shifts_one : (n x y : ℕ) → x < 65536 → y < 65536 → shifts n x ≡ shifts n y → x ≡ y
shifts_one n x y h k e =
    xor_nothing x y
    (shifts_nothing n (bit_xor x y) (xor_lt 16 x y h k) (shifts_over n x y ∙ ap (bit_xor (shifts n x)) (sym e) ∙ xor_self (shifts n x)))

-- two bytes go in
eight_twice : (x : ℕ) → shifts 8 (shifts 8 x) ≡ shifts 16 x
unfolding shifts
eight_twice x = refl

two_taken_lem : (x low high : ℕ) → low < 256 → taken (taken x low) high ≡ shifts 16 (bit_xor x (low + 256 * high))
unfolding taken
two_taken_lem x low high h =
    let above : ℕ = high * 2 ^ 8 in
    let number : bit_xor low above ≡ low + 256 * high = xor_comm low above ∙ xor_shifted high 8 low h ∙ omega arith in
    ap (shifts 8)
    (ap (bit_xor (shifts 8 (bit_xor x low))) (sym (shifts_down 8 high)) ∙ sym (shifts_over 8 (bit_xor x low) above)
    ∙ ap (shifts 8) (xor_assoc x low above ∙ ap (bit_xor x) number))
    ∙ eight_twice (bit_xor x (low + 256 * high))

all_ones : shifts 16 0xffff ≡ 0xf0b8
unfolding shifted shifts
all_ones = refl

-- the check over its register leaves F0B8, and no other number of sixteen bits does
check_leaves : (x : ℕ) → x < 65536 → shifts 16 (bit_xor x (0xffff - x)) ≡ 0xf0b8
check_leaves x h = ap (shifts 16) (xor_complement 16 x h) ∙ all_ones

check_alone : (x n : ℕ) → x < 65536 → n < 65536 → shifts 16 (bit_xor x n) ≡ 0xf0b8 → n ≡ 0xffff - x
check_alone x n h k left =
    let check : ℕ = 0xffff - x in
    let wide : bit_xor x check < 65536 = xor_lt 16 x check h (omega arith) in
    let same : bit_xor x n ≡ bit_xor x check = shifts_one 16 (bit_xor x n) (bit_xor x check) (xor_lt 16 x n h k) wide (left ∙ sym (check_leaves x h)) in
    sym (xor_twice x n) ∙ ap (bit_xor x) same ∙ xor_twice x check

two_residue : (x low high : ℕ) → x < 65536 → low < 256 → high < 256 → is_check (0xffff - x) low high ≡ eqb (taken (taken x low) high) 0xf0b8
two_residue x low high h k l = sym (check_joined (0xffff - x) low high k) ∙ go (ℕ_discrete number (0xffff - x))
  where
    number : ℕ
    number = low + 256 * high

    go : Dec (number ≡ 0xffff - x) → eqb number (0xffff - x) ≡ eqb (taken (taken x low) high) 0xf0b8
    go (yes e) =
        let left = two_taken_lem x low high k ∙ ap (λ (n : ℕ). shifts 16 (bit_xor x n)) e ∙ check_leaves x h in
        eq-eqb number (0xffff - x) e ∙ sym (eq-eqb (taken (taken x low) high) 0xf0b8 left)
    go (no e) =
        let other : taken (taken x low) high ≡ 0xf0b8 → ⊥ = λ left. e (check_alone x number h (omega arith) (sym (two_taken_lem x low high k) ∙ left)) in
        ne_eqb number (0xffff - x) e ∙ sym (ne_eqb (taken (taken x low) high) 0xf0b8 other)

-- no message of one byte leaves F0B8
half_way : shifts 8 0x0f87 ≡ 0xf0b8
unfolding shifted shifts
half_way = refl

one_byte : (b : ℕ) → b < 256 → eqb (taken preset b) 0xf0b8 ≡ false
unfolding taken
one_byte b h = ne_eqb (taken preset b) 0xf0b8 (λ left.
    let over : bit_xor 0xffff b ≡ 0x0f87 = shifts_one 8 (bit_xor 0xffff b) 0x0f87 (xor_lt 16 0xffff b (omega arith) (omega arith)) (omega arith) (left ∙ sym half_way) in
    let none : b / 2 ^ 8 ≡ 0 = omega arith in
    let top : bit_xor 0xffff b / 2 ^ 8 ≡ 255 = xor_shr 0xffff b 8 ∙ ap (bit_xor 255) none in
    absurd (omega (arith, over, top)))

-- a message of two bytes or more, by its last two
register_ends : (m : List ℕ) → 2 ≤ length m
    → register preset m ≡ taken (taken (register preset (take (length m - 2) m)) (get_or m (length m - 2) 0)) (get_or m (length m - 1) 0)
unfolding register
register_ends m h =
    let rest : ℕ = length m - 2 in
    ap (register preset) (sym (take-append-drop rest m))
    ∙ register_append preset (take rest m) (drop rest m)
    ∙ ap (register (register preset (take rest m))) (last_two m h)

residue_longer : (m : List ℕ) → ((i : ℕ) → get_or m i 0 < 256) → 2 ≤ length m → is_sealed m ≡ eqb (register preset m) 0xf0b8
unfolding is_sealed check_of
residue_longer m bytes h =
    let rest : ℕ = length m - 2 in
    let x : ℕ = register preset (take rest m) in
    let fits : x < 65536 = register_fits rest m preset bytes (omega arith) in
    rw (le-leb 2 (length m) h)
    (two_residue x (get_or m rest 0) (get_or m (length m - 1) 0) fits (bytes rest) (bytes (length m - 1))
    ∙ sym (ap (λ (y : ℕ). eqb y 0xf0b8) (register_ends m h)))

pub residue : (m : List ℕ) → ((i : ℕ) → get_or m i 0 < 256) → is_sealed m ≡ eqb (register preset m) 0xf0b8
unfolding is_sealed register
residue [] bytes = refl
residue (b ∷ []) bytes = sym (one_byte b (bytes 0))
residue (b ∷ c ∷ m) bytes = residue_longer (b ∷ c ∷ m) bytes (omega arith)
