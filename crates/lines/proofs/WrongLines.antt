-- A line that is wrong however it goes on: the 101st, one of 17 bytes, one with a byte that is no digit; and no line past 101 is told.
-- By induction over what follows. Assumes nothing.
use mathlib.Core.Path.{◌≡◌, refl, sym, ap, ◌∙◌}
use mathlib.Core.Bool.{Bool, true, false, cond, ◌&&◌, and-false}
use Prim.Native.Nat.{ℕ, suc, ◌+◌, ◌≤◌, ◌<◌}
use native.Mathlib.Omega.{arith}
use mathlib.Core.List.{List, [], ◌∷◌, ◌++◌, append_assoc, append-nil}
use borrow.Author.Tests.{leb-true, le-ltb, lt-leb, ne_eqb}
use lib.Dec.{leb, ltb, eqb}
use lib.ListN.{length, length-append}
use Rattle.digits.specs.Digits.{digit_of}
use Rattle.lines.specs.Input.{lines_from, lines, all_digits, is_uid, bad_from, bad_line}

pub all_digits_append : (xs ys : List ℕ) → all_digits (xs ++ ys) ≡ (all_digits xs && all_digits ys)
unfolding all_digits
all_digits_append [] ys = refl
all_digits_append (x ∷ xs) ys = by (ltb (digit_of x) 16) (all_digits_append xs ys)
  where
    by : (t : Bool) → all_digits (xs ++ ys) ≡ (all_digits xs && all_digits ys) → (t && all_digits (xs ++ ys)) ≡ ((t && all_digits xs) && all_digits ys)
    by true e = e
    by false e = refl

unfoldable pub is_good : ℕ → List ℕ → Bool
is_good n line = leb n 100 && is_uid line

ends_dead : (n : ℕ) (line : List ℕ) → ((rest : List ℕ) → is_good n (line ++ rest) ≡ false) → (leb n 100 && is_uid line) ≡ false
unfolding is_good
ends_dead n line dead = ap (λ (l : List ℕ). leb n 100 && is_uid l) (sym (append-nil line)) ∙ dead []

pub bad_line_dead : (n : ℕ) (line bs : List ℕ) → (length line ≡ 0 → ⊥) → ((rest : List ℕ) → is_good n (line ++ rest) ≡ false)
    → bad_from n (lines_from line bs) ≡ n
unfolding bad_from lines_from
bad_line_dead n line [] some dead = rw (ne_eqb (length line) 0 some, ends_dead n line dead)
bad_line_dead n line (b ∷ bs) some dead =
    let more : length (line ++ b ∷ []) ≡ length line + 1 = length-append line (b ∷ []) in
    by (eqb b 0x0a) (bad_line_dead n (line ++ b ∷ []) bs (λ (e : length (line ++ b ∷ []) ≡ 0). absurd (omega arith)) (λ rest. rw append_assoc (dead (b ∷ rest))))
  where
    by : (t : Bool) → bad_from n (lines_from (line ++ b ∷ []) bs) ≡ n
        → bad_from n (cond t (line ∷ lines_from [] bs) (lines_from (line ++ b ∷ []) bs)) ≡ n
    by true e = rw (ends_dead n line dead)
    by false e = e

pub dead_101 : (n : ℕ) (line : List ℕ) → 100 < n → is_good n line ≡ false
unfolding is_good
dead_101 n line h = rw (lt-leb n 100 h)

pub dead_17 : (n : ℕ) (line rest : List ℕ) → 16 < length line → is_good n (line ++ rest) ≡ false
unfolding is_good is_uid
dead_17 n line rest h = rw (length-append, ne_eqb (length line + length rest) 16 (λ e. absurd (omega arith)), and-false)

pub dead_digit : (n b : ℕ) (line rest : List ℕ) → 16 ≤ digit_of b → is_good n ((line ++ b ∷ []) ++ rest) ≡ false
unfolding is_good is_uid all_digits
dead_digit n b line rest h =
    let off : ltb (digit_of b) 16 ≡ false = le-ltb (digit_of b) 16 h in
    rw (append_assoc, all_digits_append, off, and-false, and-false, and-false)

-- ---- its number

bad_most : (n : ℕ) (ls : List (List ℕ)) → n ≤ 101 → bad_from n ls ≤ 101
unfolding bad_from
bad_most n [] h = omega arith
bad_most n (l ∷ ls) h = go (leb n 100) refl (is_uid l) (λ k. bad_most (suc n) ls k)
  where
    go : (t : Bool) → leb n 100 ≡ t → (u : Bool) → (suc n ≤ 101 → bad_from (suc n) ls ≤ 101) → cond (t && u) (bad_from (suc n) ls) n ≤ 101
    go true e true f =
        let few : n ≤ 100 = leb-true n 100 e in
        f (omega arith)
    go true e false f = h
    go false e u f = h

pub bad_line_most : (input : List ℕ) → bad_line input ≤ 101
unfolding bad_line
bad_line_most input = bad_most 1 (lines input) (omega arith)
