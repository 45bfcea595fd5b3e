-- What is printed, put together: a name before a number, the heading, and the lines of a list with their lengths.
-- By pieces one after another. Assumes nothing.
use mathlib.Core.Path.{◌≡◌, refl}
use Prim.Native.Nat.{ℕ, ◌+◌, ◌*◌, ◌≤◌, ◌<◌}
use native.Mathlib.Numerals.{add-one}
use native.Mathlib.Omega.{arith}
use mathlib.Core.List.{List, [], ◌∷◌, ◌++◌, append_assoc}
use lib.ListN.{length, take, get_or, set, length-append, length-take}
use lib.Seq.{take-suc}
use Rattle.lent.specs.Puts.{Puts, PutsAt}
use Rattle.walk.specs.declared.Walk.{Walk}
use Rattle.row.specs.declared.Desk.{Desk}
use Rattle.report.specs.Output.{uid_lines, verdict_line, heading, report}
use Rattle.lent.proofs.Puts.{puts_none, puts_then, puts_more, puts_start}
use Rattle.digits.specs.Digits.{hex_digits}
use Rattle.digits.specs.Decimal.{decimal}
use Rattle.digits.proofs.Digits.{length_hex_digits}
use Rattle.digits.proofs.Decimal.{length_decimal}

-- ---- the lines of a list

pub length_lines : (us : List ℕ) → length (uid_lines us) ≡ 17 * length us
unfolding uid_lines
length_lines [] = refl
length_lines (u ∷ us) = rw (length-append, length_hex_digits 16 u, length_lines us) (omega arith)

lines_append : (xs ys : List ℕ) → uid_lines (xs ++ ys) ≡ uid_lines xs ++ uid_lines ys
unfolding uid_lines
lines_append [] ys = refl
lines_append (x ∷ xs) ys = rw (lines_append xs ys, append_assoc)

pub lines_more : (list : List ℕ) (i : ℕ) → i < length list
    → uid_lines (take (i + 1) list) ≡ uid_lines (take i list) ++ (hex_digits 16 (get_or list i 0) ++ 0x0a ∷ [])
unfolding uid_lines
lines_more list i h = rw (add-one, take-suc list i 0 h, lines_append) refl

pub lines_puts_none : (at : ℕ) (list e : List ℕ) → PutsAt at (uid_lines (take 0 list)) e at e
unfolding uid_lines
lines_puts_none at list e = puts_none at e

pub lines_puts_more : {at n m : ℕ} {e f g : List ℕ} (list : List ℕ) (i : ℕ) → n ≡ at + 17 * i → PutsAt at (uid_lines (take i list)) e n f
    → PutsAt n (hex_digits 16 (get_or list i 0)) f m g → i < length list → length f ≡ length e → at + 17 * i + 17 ≤ length e
    → PutsAt at (uid_lines (take (i + 1) list)) e (m + 1) (set g m 0x0a)
lines_puts_more {at} {n} {m} {e} {f} {g} list i here p q h same k =
    let digits : length (hex_digits 16 (get_or list i 0)) ≡ 16 = length_hex_digits 16 (get_or list i 0) in
    let line : length (hex_digits 16 (get_or list i 0) ++ 0x0a ∷ []) ≡ length (hex_digits 16 (get_or list i 0)) + 1 =
    length-append (hex_digits 16 (get_or list i 0)) (0x0a ∷ []) in
    rw (lines_more list i h) (puts_then p (puts_more 0x0a q (omega arith)) (omega arith))

pub lines_most : (n : ℕ) (list : List ℕ) → length (uid_lines (take n list)) ≤ 17 * n
lines_most n list = rw (length_lines, length-take) (omega arith)

-- ---- a name and a number

pub named_end : {at m : ℕ} {e f : List ℕ} (name : List ℕ) (n : ℕ) → n < 1000 → PutsAt at (name ++ decimal n) e m f → m ≤ at + length name + 3
named_end name n h p =
    let both : length (name ++ decimal n) ≡ length name + length (decimal n) = length-append name (decimal n) in
    omega (arith, p.next, length_decimal 2 n h)

-- ---- the heading and the whole

pub puts_heading : {v r c : ℕ} {e f g h : List ℕ} (w : Walk) → PutsAt 0 (verdict_line w.ending) e v f
    → PutsAt v (0x0a ∷ 0x72 ∷ 0x6f ∷ 0x75 ∷ 0x6e ∷ 0x64 ∷ 0x73 ∷ 0x20 ∷ decimal w.rounds) f r g
    → PutsAt r (0x0a ∷ 0x63 ∷ 0x61 ∷ 0x72 ∷ 0x64 ∷ 0x73 ∷ 0x20 ∷ decimal w.count) g c h → c ≤ length e → PutsAt 0 (heading w) e c h
unfolding heading
puts_heading w p q s room = puts_then (puts_then p q (omega (arith, q.next, s.next))) s (omega (arith, s.next))

pub puts_report : {c n t : ℕ} {e h i k : List ℕ} (d : Desk) → PutsAt 0 (heading d.walk) e c h → PutsAt c (0x0a ∷ []) h n i
    → PutsAt n (uid_lines (take d.walk.count d.list)) i t k → t ≤ length e → Puts (report d) e t k
unfolding report
puts_report d p w u room =
    let list : List ℕ = uid_lines (take d.walk.count d.list) in
    let all = puts_then (puts_then p w (omega (arith, w.next, u.next))) u (omega (arith, u.next)) in
    puts_start (rw (← (append_assoc _ (0x0a ∷ []) list)) all)
