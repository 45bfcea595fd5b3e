-- Pieces put one after another into a buffer: none, one after another, a byte more, and bytes copied one by one. By the laws of `placed`.
-- Assumes nothing.
use mathlib.Core.Path.{◌≡◌, refl, sym, ap, ◌∙◌}
use Prim.Native.Nat.{ℕ, ◌+◌, ◌≤◌, ◌<◌}
use native.Mathlib.Nat.{add-zero, zero-add}
use native.Mathlib.Numerals.{add-one, towards_suc}
use native.Mathlib.Omega.{arith}
use mathlib.Core.List.{List, [], ◌∷◌, ◌++◌}
use lib.ListN.{length, take, get_or, set, length-append}
use lib.Seq.{take-suc, length-take-le}
use Rattle.lent.specs.Puts.{Puts, PutsAt}
use Rattle.lent.proofs.Over.{placed_none, placed_placed, placed_start, sets_placed, set_placed, length_placed}

pub puts_none : (at : ℕ) (e : List ℕ) → PutsAt at [] e at e
puts_none at e = record { next = sym (add-zero at); leaves = sym (placed_none at e) }

pub puts_then : {at m r : ℕ} {s v e f g : List ℕ} → PutsAt at s e m f → PutsAt m v f r g → m + length v ≤ length e → PutsAt at (s ++ v) e r g
puts_then {at} {m} {r} {s} {v} {e} p q h =
    let both : length (s ++ v) ≡ length s + length v = length-append s v in
    record {
      next = omega (arith, p.next, q.next);
      leaves = q.leaves ∙ rw (p.leaves, p.next) (placed_placed at s v e (omega (arith, p.next)));
    }

pub puts_start : {s e f : List ℕ} {r : ℕ} → PutsAt 0 s e r f → Puts s e r f
puts_start {s} {e} p = record { count = p.next ∙ zero-add (length s); leaves = p.leaves ∙ placed_start s e }

pub length_puts : {at r : ℕ} {s e f : List ℕ} → PutsAt at s e r f → at + length s ≤ length e → length f ≡ length e
length_puts {at} {r} {s} {e} p h = ap length p.leaves ∙ length_placed at s e h

-- ---- stores

pub puts_byte : (at a : ℕ) (e : List ℕ) → at + 1 ≤ length e → PutsAt at (a ∷ []) e (at + 1) (set e at a)
puts_byte at a e h = record { next = refl; leaves = sets_placed at (a ∷ []) e h }

pub puts_bytes : (at a b : ℕ) (e : List ℕ) → at + 2 ≤ length e → PutsAt at (a ∷ b ∷ []) e (at + 2) (set (set e at a) (at + 1) b)
puts_bytes at a b e h = record { next = refl; leaves = simp towards_suc (sets_placed at (a ∷ b ∷ []) e h) }

-- a byte right after the bytes that stand there
pub puts_more : {at r : ℕ} {s e f : List ℕ} (b : ℕ) → PutsAt at s e r f → at + length s < length e → PutsAt at (s ++ b ∷ []) e (r + 1) (set f r b)
puts_more {at} {r} {s} {e} {f} b p h =
    let both : length (s ++ b ∷ []) ≡ length s + 1 = length-append s (b ∷ []) in
    record { next = omega (arith, p.next); leaves = rw (p.leaves, p.next) (set_placed at s e b h) }

-- ---- bytes copied one by one

pub copied_none : (at : ℕ) (bytes e : List ℕ) → PutsAt at (take 0 bytes) e (at + 0) e
copied_none at bytes e = rw add-zero (puts_none at e)

pub copied_more : {at : ℕ} {e f : List ℕ} (bytes : List ℕ) (i : ℕ) → PutsAt at (take i bytes) e (at + i) f → i < length bytes → at + i < length e
    → PutsAt at (take (i + 1) bytes) e (at + (i + 1)) (set f (at + i) (get_or bytes i 0))
copied_more {at} {e} {f} bytes i p h k =
    let all : length (take i bytes) ≡ i = length-take-le i bytes (omega arith) in
    let one : at + (i + 1) ≡ at + i + 1 = omega arith in
    rw (one, add-one i, take-suc bytes i 0 h) (puts_more (get_or bytes i 0) p (rw all k))
