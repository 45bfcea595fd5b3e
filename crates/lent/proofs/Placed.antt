-- Bytes placed in a buffer, byte by byte: one of those placed is the placed one, and any other is as it was. By the laws of appended lists.
-- Assumes nothing.
use mathlib.Core.Path.{◌≡◌, sym, ap, ◌∙◌}
use mathlib.Core.List.{List, ◌++◌}
use Prim.Native.Nat.{ℕ, ◌+◌, ◌-◌, ◌≤◌, ◌<◌}
use native.Mathlib.Omega.{arith}
use lib.ListN.{length, take, drop, get_or, length-append, get_or-append}
use lib.Seq.{get_or-append-add, get_or-take, get_or-drop, length-take-le}
use Rattle.lent.specs.Lent.{placed}

length_before : (at : ℕ) (s e : List ℕ) → at + length s ≤ length e → length (take at e ++ s) ≡ at + length s
length_before at s e h = rw (length-append, length-take-le at e (omega arith))

pub placed_before : (at : ℕ) (s e : List ℕ) (k : ℕ) → at + length s ≤ length e → k < at → get_or (placed at s e) k 0 ≡ get_or e k 0
unfolding placed
placed_before at s e k h b =
    let inside : k < length (take at e ++ s) = rw (length_before at s e h) (omega arith) in
    let first : k < length (take at e) = rw (length-take-le at e (omega arith)) b in
    get_or-append (take at e ++ s) (drop (at + length s) e) 0 k inside ∙ get_or-append (take at e) s 0 k first ∙ get_or-take at e k 0 b

pub placed_byte : (at : ℕ) (s e : List ℕ) (k : ℕ) → at + length s ≤ length e → k < length s → get_or (placed at s e) (at + k) 0 ≡ get_or s k 0
unfolding placed
placed_byte at s e k h b =
    let inside : at + k < length (take at e ++ s) = rw (length_before at s e h) (omega arith) in
    let start : at ≡ length (take at e) = sym (length-take-le at e (omega arith)) in
    get_or-append (take at e ++ s) (drop (at + length s) e) 0 (at + k) inside
    ∙ ap (λ (n : ℕ). get_or (take at e ++ s) (n + k) 0) start
    ∙ get_or-append-add (take at e) s k 0

pub placed_past : (at : ℕ) (s e : List ℕ) (k : ℕ) → at + length s ≤ length e → at + length s ≤ k → get_or (placed at s e) k 0 ≡ get_or e k 0
unfolding placed
placed_past at s e k h b =
    let rest : ℕ = k - (at + length s) in
    let past : k ≡ at + length s + rest = omega arith in
    let end : at + length s ≡ length (take at e ++ s) = sym (length_before at s e h) in
    ap (λ (n : ℕ). get_or (take at e ++ s ++ drop (at + length s) e) n 0) past
    ∙ ap (λ (n : ℕ). get_or (take at e ++ s ++ drop (at + length s) e) (n + rest) 0) end
    ∙ get_or-append-add (take at e ++ s) (drop (at + length s) e) rest 0
    ∙ get_or-drop (at + length s) e rest 0
    ∙ ap (λ (n : ℕ). get_or e n 0) (sym past)
