-- Bytes put at a place of a text: refused or served, what a call made where there is room has put, and a store of the last byte.
-- By the one test of the definitions. Assumes nothing.
use mathlib.Core.Path.{◌≡◌, refl, sym, ap, ◌∙◌}
use mathlib.Core.List.{List, [], ◌∷◌, ◌++◌, append_assoc}
use Prim.Native.Nat.{ℕ, suc, ◌+◌, ◌/◌, ◌≤◌, ◌<◌}
use native.Mathlib.Numerals.{add-one}
use native.Mathlib.Omega.{arith}
use borrow.Author.Tests.{le-leb, lt-leb}
use borrow.Rule.Slice.PartMut.{put_mid}
use lib.IntN.{ℤ}
use lib.ListN.{length, drop, set, length-append, length-set}
use lib.Seq.{drop-cons, drop-drop, get_or-set_same, take-set-le, drop-set-lt, append_snoc}
use Rattle.std.specs.Prelude.{Result, Ok, Err, IsOk}
use Rattle.refusals.specs.declared.Refusal.{Refusal}
use Rattle.refusals.specs.declared.Refusal.TheVariants.{Room}
use Rattle.refusals.specs.Number.{number, number_back}
use Rattle.refusals.proofs.Numbers.{number_back_tells}
use Rattle.lent.specs.Lent.{placed}
use Rattle.lent.specs.Puts.{PutsAt}
use Rattle.lent.proofs.Over.{placed_none}
use Rattle.digits.specs.Digits.{digit, hex_digits}
use Rattle.digits.specs.Put.{put_answer, put_leaves, PutsText}
use Rattle.digits.proofs.Digits.{length_hex_digits}

-- ---- the ways out

pub put_refused : (bytes text : List ℕ) (at n : ℕ) (r : Result ℕ Refusal) → length bytes ≡ n → r ≡ Err Room → length text < at + n
    → PutsText bytes text at (number_back r) text
unfolding put_answer put_leaves number_back number
put_refused bytes text at n r is err h =
    let short = lt-leb (at + length bytes) (length text) (omega arith) in
    record { answer = rw (err, short); leaves = rw short }

pub put_served : (bytes text left : List ℕ) (at n end : ℕ) → length bytes ≡ n → end ≡ at + n → end ≤ length text → left ≡ placed at bytes text
    → PutsText bytes text at (number_back (Ok end)) left
unfolding put_answer put_leaves number_back
put_served bytes text left at n end is here h p =
    let room = le-leb (at + length bytes) (length text) (omega arith) in
    record { answer = rw (room, is, here); leaves = rw (room, p) }

-- a part that was written whole
pub part_placed : (bytes text : List ℕ) (at k : ℕ) → k ≡ length bytes → put_mid at k text bytes ≡ placed at bytes text
unfolding placed
part_placed bytes text at k is = rw (is, drop-drop, append_assoc)

-- ---- where there is room

pub put_leaves_lem : {bytes text left : List ℕ} {at : ℕ} {r : ℤ} → PutsText bytes text at r left → at + length bytes ≤ length text
    → left ≡ placed at bytes text
unfolding put_leaves
put_leaves_lem {bytes} {text} {left} {at} p h = p.leaves ∙ rw (le-leb (at + length bytes) (length text) h) refl

-- the result is the place after them
pub put_is_ok : {bytes text left : List ℕ} {at : ℕ} (r : Result ℕ Refusal) → PutsText bytes text at (number_back r) left → at + length bytes ≤ length text
    → r ≡ Ok (at + length bytes)
unfolding put_answer number_back
put_is_ok {bytes} {text} {left} {at} r p h =
    number_back_tells r (Ok (at + length bytes)) (p.answer ∙ rw (le-leb (at + length bytes) (length text) h) refl)

-- for a call whose `Ok` was unwrapped
pub put_can : {bytes text left : List ℕ} {at : ℕ} (r : Result ℕ Refusal) → PutsText bytes text at (number_back r) left → at + length bytes ≤ length text → IsOk r
put_can {bytes} {at = at} r p h = rw (put_is_ok r p h)

pub put_at : {bytes text left : List ℕ} {at : ℕ} (r : Result ℕ Refusal) (end : ℕ) → PutsText bytes text at (number_back r) left
    → at + length bytes ≤ length text → r ≡ Ok end → PutsAt at bytes text end left
put_at {bytes} {at = at} r end p h is = let all = put_is_ok r p h in record { next = cc; leaves = put_leaves_lem p h }

-- ---- stores, the last byte first

-- the head of what follows a store
pub drop_set : (e : List ℕ) (i b : ℕ) → i < length e → drop i (set e i b) ≡ b ∷ drop (suc i) e
drop_set e i b h =
    drop-cons (set e i b) i 0 (simp length-set h) ∙ rw (get_or-set_same e i b 0 h, drop-set-lt (suc i) e i b (omega arith))

-- the last of the bytes to be placed, stored
pub placed_last : (at : ℕ) (s e : List ℕ) (b : ℕ) → at + length s < length e
    → placed at s (set e (at + length s) b) ≡ placed at (s ++ b ∷ []) e
unfolding placed
placed_last at s e b h =
    let past : at + length (s ++ b ∷ []) ≡ suc (at + length s) = rw length-append (omega arith) in
    rw (take-set-le at e (at + length s) b (omega arith), drop_set e (at + length s) b h, past, ← append_assoc, append_snoc)

-- the last digit, stored
pub digit_last : (at i rest d : ℕ) (e : List ℕ) → d ≡ digit rest → at + i < length e
    → placed at (hex_digits i (rest / 16)) (set e (at + i) d) ≡ placed at (hex_digits (i + 1) rest) e
unfolding hex_digits
digit_last at i rest d e is h =
    let s : List ℕ = hex_digits i (rest / 16) in
    let all : length s ≡ i = length_hex_digits i (rest / 16) in
    rw (add-one i, ← is) (ap (λ (j : ℕ). placed at s (set e (at + j) d)) (sym all) ∙ placed_last at s e d (omega arith))

pub digits_none : (at i rest : ℕ) (e : List ℕ) → i ≡ 0 → e ≡ placed at (hex_digits i rest) e
unfolding hex_digits
digits_none at i rest e h = rw h (sym (placed_none at e))
