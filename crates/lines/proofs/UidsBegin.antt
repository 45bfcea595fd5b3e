-- The UIDs of an input with no wrong line begin with E0. By the tests of a line, and by induction over the lines. Assumes nothing.
use mathlib.Core.Path.{◌≡◌, refl}
use mathlib.Core.Bool.{Bool, true, false, cond, ◌&&◌, and-eq-true_iff}
use Prim.Native.Nat.{ℕ, zero, suc, ◌/◌, ◌^◌, ◌<◌}
use native.Mathlib.Omega.{arith}
use mathlib.Core.List.{List, [], ◌∷◌}
use borrow.Author.Tests.{eqb-true}
use lib.Dec.{leb, eqb}
use lib.ListN.{length, get_or}
use Rattle.lines.specs.Input.{lines, all_digits, uid_of, begins_e0, is_uid, bad_from, bad_line, uids_of, uids}

-- 16 bytes, each a digit, the first two E0
uid_begins : (line : List ℕ) → is_uid line ≡ true → uid_of line / 2 ^ 56 ≡ 0xe0
unfolding is_uid begins_e0
uid_begins line e =
    let digits = ((and-eq-true_iff (eqb (length line) 16) _).0 e).1 in
    eqb-true (uid_of line / 2 ^ 56) 0xe0 ((and-eq-true_iff (all_digits line) _).0 digits).1

lines_begin : (n : ℕ) (ls : List (List ℕ)) → bad_from (suc n) ls ≡ 0 → (i : ℕ) → i < length (uids_of ls) → get_or (uids_of ls) i 0 / 2 ^ 56 ≡ 0xe0
unfolding bad_from uids_of
lines_begin n [] e i h = absurd (omega arith)
lines_begin n (l ∷ ls) e i h = go (leb (suc n) 100 && is_uid l) refl e i h (λ g. lines_begin (suc n) ls g)
  where
    go : (b : Bool) → (leb (suc n) 100 && is_uid l) ≡ b → cond b (bad_from (suc (suc n)) ls) (suc n) ≡ 0 → (i : ℕ) → i < suc (length (uids_of ls))
        → (bad_from (suc (suc n)) ls ≡ 0 → (k : ℕ) → k < length (uids_of ls) → get_or (uids_of ls) k 0 / 2 ^ 56 ≡ 0xe0)
        → get_or (uid_of l ∷ uids_of ls) i 0 / 2 ^ 56 ≡ 0xe0
    go true good f zero h later = uid_begins l ((and-eq-true_iff (leb (suc n) 100) (is_uid l)).0 good).1
    go true good f (suc i) h later = later f i (omega arith)
    go false good f i h later = absurd (omega arith)

pub input_uids_begin : (input : List ℕ) → bad_line input ≡ 0 → (i : ℕ) → i < length (uids input) → get_or (uids input) i 0 / 2 ^ 56 ≡ 0xe0
unfolding bad_line uids
input_uids_begin input e = lines_begin 0 (lines input) e
