-- Laws of `over` and `placed`: a buffer keeps its length, and stores right after the bytes s make them longer.
-- Assumes nothing.
use mathlib.Core.Path.{◌≡◌, refl, sym, ap, ◌∙◌}
use Prim.Native.Nat.{ℕ, suc, ◌+◌, ◌≤◌, ◌<◌}
use native.Mathlib.Nat.{add-zero, zero-add, suc-add, add_assoc}
use native.Mathlib.Numerals.{towards_suc}
use native.Mathlib.Omega.{arith}
use mathlib.Core.List.{List, [], ◌∷◌, ◌++◌, append_assoc, append-nil}
use lib.ListN.{length, take, drop, set, length-append, length-take, length-drop, length-set, take-append-drop}
use lib.Seq.{sets, sets-eq, take_at, take-append_seam, drop-append-add, drop-drop, drop-cons, set_at, set-append_left, append_snoc, length-take-le}
use Rattle.lent.specs.Lent.{over, placed}

pub over_none : (e : List ℕ) → over [] e ≡ e
unfolding over
over_none e = refl

pub length_over : (s e : List ℕ) → length s ≤ length e → length (over s e) ≡ length e
unfolding over
length_over s e h = simp (length-append, length-drop) (omega arith)

pub placed_none : (at : ℕ) (e : List ℕ) → placed at [] e ≡ e
unfolding placed
placed_none at e = rw (add-zero, append-nil, take-append-drop)

pub length_placed : (at : ℕ) (s e : List ℕ) → at + length s ≤ length e → length (placed at s e) ≡ length e
unfolding placed
length_placed at s e h = simp (length-append, length-take, length-drop) (omega arith)

-- straight-line stores place their bytes
pub sets_placed : (at : ℕ) (s e : List ℕ) → at + length s ≤ length e → sets e at s ≡ placed at s e
unfolding placed
sets_placed at s e h = sets-eq s e at h

pub set_four : (at a b c d : ℕ) (e : List ℕ) → at + 4 ≤ length e
    → set (set (set (set e at a) (at + 1) b) (at + 2) c) (at + 3) d ≡ placed at (a ∷ b ∷ c ∷ d ∷ []) e
set_four at a b c d e h = simp towards_suc (sets_placed at (a ∷ b ∷ c ∷ d ∷ []) e h)

-- bytes placed at the start
pub placed_start : (s e : List ℕ) → placed 0 s e ≡ over s e
unfolding over placed
placed_start s e = rw zero-add

-- straight-line stores at the start
pub sets_over : (s e : List ℕ) → length s ≤ length e → sets e 0 s ≡ over s e
sets_over s e h = sets_placed 0 s e (omega arith) ∙ placed_start s e

-- bytes placed right after those at the start
pub over_placed : (n : ℕ) (s v e : List ℕ) → length s ≡ n → placed n v (over s e) ≡ over (s ++ v) e
unfolding over placed
over_placed n s v e is = rw (← is, take-append_seam, drop-append-add, drop-drop, length-append)

-- bytes placed right after the bytes s
pub placed_placed : (at : ℕ) (s v e : List ℕ) → at + length s + length v ≤ length e
    → placed (at + length s) v (placed at s e) ≡ placed at (s ++ v) e
unfolding placed
placed_placed at s v e h =
    let before : length (take at e ++ s) ≡ at + length s = rw (length-append, length-take-le at e (omega arith)) in
    rw (
      take_at (take at e ++ s) (drop (at + length s) e) (at + length s) before,
      ← before,
      drop-append-add,
      before,
      drop-drop,
      length-append,
      ← append_assoc (take at e) s v,
      add_assoc,
    )

-- a store past the first part of a list
set_append_right : (p s : List ℕ) (i b : ℕ) → set (p ++ s) (length p + i) b ≡ p ++ set s i b
set_append_right [] s i b = rw zero-add
set_append_right (x ∷ p) s i b = rw (suc-add (length p) i) (ap (λ (t : List ℕ). x ∷ t) (set_append_right p s i b))

-- one of the bytes that were placed, stored anew
pub set_in_placed : (at : ℕ) (s e : List ℕ) (i b : ℕ) → at + length s ≤ length e → i < length s
    → set (placed at s e) (at + i) b ≡ placed at (set s i b) e
unfolding placed
set_in_placed at s e i b h k =
    let before : length (take at e) ≡ at = length-take-le at e (omega arith) in
    let inside : at + i < length (take at e ++ s) = rw (length-append, before) (omega arith) in
    set-append_left (take at e ++ s) (drop (at + length s) e) (at + i) b inside
    ∙ ap (λ (l : List ℕ). l ++ drop (at + length s) e)
    (ap (λ (n : ℕ). set (take at e ++ s) (n + i) b) (sym before) ∙ set_append_right (take at e) s i b)
    ∙ rw length-set

-- one byte stored right after the bytes s
pub set_placed : (at : ℕ) (s e : List ℕ) (b : ℕ) → at + length s < length e
    → set (placed at s e) (at + length s) b ≡ placed at (s ++ b ∷ []) e
unfolding placed
set_placed at s e b h =
    let place : length (take at e ++ s) ≡ at + length s = simp (length-append, length-take) (omega arith) in
    let past : at + length (s ++ b ∷ []) ≡ suc (at + length s) = rw length-append (omega arith) in
    ap (λ (r : List ℕ). set (take at e ++ s ++ r) (at + length s) b) (drop-cons e (at + length s) 0 h)
    ∙ set_at (take at e ++ s) _ (drop (suc (at + length s)) e) b (at + length s) place
    ∙ rw (past, ← append_assoc, append_snoc)

-- a first byte, the bytes p after it, and a last one at place n
pub placed_between : (p e : List ℕ) (a z n : ℕ) → n ≡ 1 + length p → n + 1 ≤ length e
    → set (placed 1 p (set e 0 a)) n z ≡ over (a ∷ p ++ z ∷ []) e
placed_between p e a z n h room =
    let first : set e 0 a ≡ placed 0 (a ∷ []) e = sets_placed 0 (a ∷ []) e (omega arith) in
    let middle : placed 1 p (placed 0 (a ∷ []) e) ≡ placed 0 (a ∷ p) e = placed_placed 0 (a ∷ []) p e (omega arith) in
    let place : n ≡ 0 + length (a ∷ p) = omega arith in
    rw (first, middle, place) (set_placed 0 (a ∷ p) e z (omega arith) ∙ placed_start (a ∷ p ++ z ∷ []) e)

-- more bytes over bytes that stand there already
pub over_over : (s v e : List ℕ) → over (s ++ v) (over s e) ≡ over (s ++ v) e
unfolding over
over_over s v e = rw (length-append, drop-append-add, drop-drop)

pub take_over : (s e : List ℕ) → take (length s) (over s e) ≡ s
unfolding over
take_over s e = take-append_seam s (drop (length s) e)
