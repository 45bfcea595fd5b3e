-- The ways out of `put_field` and `seal`: refused with number 8, or served. By the one test of each definition.
-- Assumes nothing.
use mathlib.Core.Path.{◌≡◌, refl, sym, ap, ap₂, ◌∙◌}
use Rattle.std.specs.Prelude.{Result, Ok, IsOk}
use Prim.Native.Nat.{ℕ, ◌+◌, ◌-◌, ◌/◌, ◌%◌, ◌≤◌, ◌<◌}
use native.Mathlib.Nat.{mod-eq_of_lt}
use native.Mathlib.Omega.{arith}
use mathlib.Core.List.{List, [], ◌∷◌, append_assoc}
use borrow.Author.Tests.{le-leb, lt-leb}
use borrow.Rule.Slice.PartMut.{put_mid}
use lib.IntN.{pos}
use lib.ListN.{length, take, drop, length-append, length-take, length-drop}
use lib.Seq.{length-take-le, drop-drop}
use Rattle.lent.specs.Lent.{over, placed, refused}
use Rattle.refusals.specs.declared.Refusal.{Refusal}
use Rattle.refusals.specs.Number.{number_back}
use Rattle.refusals.proofs.Numbers.{number_back_tells}
use Rattle.crc.specs.Check.{check_of, check_bytes, sealed}
use Rattle.crc.proofs.Seal.{check_fits}
use Rattle.frames.specs.Field.{field_bytes, put_answer, put_leaves, PutsField}
use Rattle.frames.specs.Frame.{seal_answer, seal_leaves, Seals}
use Rattle.frames.proofs.Fields.{length_field_bytes}

pub puts_refused : (buffer : List ℕ) (at count value : ℕ) → length buffer < at + count → PutsField buffer at count value (refused 8) buffer
unfolding put_answer put_leaves
puts_refused buffer at count value h =
    record { answer = rw (lt-leb (at + count) (length buffer) h); leaves = rw (lt-leb (at + count) (length buffer) h) }

pub puts_served : (buffer : List ℕ) (at count value : ℕ) → at + count ≤ length buffer
    → PutsField buffer at count value (pos (at + count)) (placed at (field_bytes count value) buffer)
unfolding put_answer put_leaves
puts_served buffer at count value h =
    record { answer = rw (le-leb (at + count) (length buffer) h); leaves = rw (le-leb (at + count) (length buffer) h) }

-- the check as a field of two bytes
check_field : (m : List ℕ) → field_bytes 2 (check_of m) ≡ check_bytes m
unfolding field_bytes check_bytes
check_field m = rw (mod-eq_of_lt {n = check_of m / 256} {m = 256} (omega (arith, check_fits m)))

-- the check put after the first n bytes
pub placed_check : (buffer : List ℕ) (n : ℕ) → n ≤ length buffer
    → placed n (field_bytes 2 (check_of (take n buffer))) buffer ≡ over (sealed (take n buffer)) buffer
unfolding placed over sealed
placed_check buffer n h =
    let m : List ℕ = take n buffer in
    rw (check_field m, length-append m (check_bytes m), length-take-le n buffer h)

pub seals_refused : (buffer : List ℕ) (n : ℕ) → length buffer < n + 2 → Seals buffer n (refused 8) buffer
unfolding seal_answer seal_leaves
seals_refused buffer n h = record { answer = rw (lt-leb (n + 2) (length buffer) h); leaves = rw (lt-leb (n + 2) (length buffer) h) }

pub seals_served : (buffer : List ℕ) (n : ℕ) → n + 2 ≤ length buffer
    → Seals buffer n (pos (n + 2)) (placed n (field_bytes 2 (check_of (take n buffer))) buffer)
unfolding seal_answer seal_leaves
seals_served buffer n h =
    record { answer = rw (le-leb (n + 2) (length buffer) h); leaves = rw (le-leb (n + 2) (length buffer) h) (placed_check buffer n (omega arith)) }

-- ---- what the code leaves: other bytes in the place of those of a part of the buffer

part_placed : (at k : ℕ) (s e : List ℕ) → length s ≡ k → put_mid at k e s ≡ placed at s e
unfolding placed
part_placed at k s e is = rw (is, drop-drop, append_assoc) refl

pub puts_part : (buffer : List ℕ) (at count value : ℕ) {end : ℕ} {field : List ℕ} → end ≡ at + count → end ≤ length buffer
    → field ≡ field_bytes (length (take (end - at) (drop at buffer))) value → PutsField buffer at count value (pos end) (put_mid at (end - at) buffer field)
puts_part buffer at count value {end} {field} is fits bytes =
    let n : end - at ≡ count = omega arith in
    let long : length (take (end - at) (drop at buffer)) ≡ count = rw (length-take, length-drop) (omega arith) in
    let same : field ≡ field_bytes count value = bytes ∙ ap (λ (k : ℕ). field_bytes k value) long in
    let left : put_mid at (end - at) buffer field ≡ placed at (field_bytes count value) buffer =
    ap₂ (λ (k : ℕ) (s : List ℕ). put_mid at k buffer s) n same ∙ part_placed at count (field_bytes count value) buffer (length_field_bytes count value) in
    rw (left, is) (puts_served buffer at count value (omega arith))

pub seals_part : (buffer : List ℕ) (n : ℕ) {end x : ℕ} {bytes : List ℕ} → end ≡ n + 2 → end ≤ length buffer → x ≡ check_of (take n buffer)
    → bytes ≡ x % 256 ∷ x / 256 % 256 ∷ [] → Seals buffer n (pos end) (put_mid n (end - n) buffer bytes)
unfolding field_bytes
seals_part buffer n {end} {x} {bytes} is fits check two =
    let k : end - n ≡ 2 = omega arith in
    let same : bytes ≡ field_bytes 2 (check_of (take n buffer)) = rw (two, check) in
    let left : put_mid n (end - n) buffer bytes ≡ placed n (field_bytes 2 (check_of (take n buffer))) buffer =
    ap₂ (λ (j : ℕ) (s : List ℕ). put_mid n j buffer s) k same ∙ part_placed n 2 (field_bytes 2 (check_of (take n buffer))) buffer refl in
    rw (left, is) (seals_served buffer n (omega arith))

-- ---- for a caller that has room: which result it gets, that it may unwrap it, and what it leaves

pub puts_field_fits : {buffer : List ℕ} {at count value : ℕ} (r : Result ℕ Refusal) {left : List ℕ} → PutsField buffer at count value (number_back r) left
    → at + count ≤ length buffer → (r ≡ Ok (at + count)) × (left ≡ placed at (field_bytes count value) buffer)
unfolding number_back
puts_field_fits {buffer} {at} {count} {value} r puts h =
    let served = puts_served buffer at count value h in
    (number_back_tells r (Ok (at + count)) (puts.answer ∙ sym served.answer), puts.leaves ∙ sym served.leaves)

pub puts_field_ok : {buffer : List ℕ} {at count value : ℕ} (r : Result ℕ Refusal) {left : List ℕ} → PutsField buffer at count value (number_back r) left
    → at + count ≤ length buffer → IsOk r
puts_field_ok r puts h = rw (puts_field_fits r puts h).0 refl

pub seals_fits : {buffer : List ℕ} {n : ℕ} (r : Result ℕ Refusal) {left : List ℕ} → Seals buffer n (number_back r) left → n + 2 ≤ length buffer
    → (r ≡ Ok (n + 2)) × (left ≡ over (sealed (take n buffer)) buffer)
unfolding number_back
seals_fits {buffer} {n} r seals h =
    let served = seals_served buffer n h in (
      number_back_tells r (Ok (n + 2)) (seals.answer ∙ sym served.answer),
      seals.leaves ∙ sym served.leaves ∙ placed_check buffer n (omega arith),
    )

pub seals_ok : {buffer : List ℕ} {n : ℕ} (r : Result ℕ Refusal) {left : List ℕ} → Seals buffer n (number_back r) left → n + 2 ≤ length buffer → IsOk r
seals_ok r seals h = rw (seals_fits r seals h).0 refl
