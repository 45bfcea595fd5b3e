-- Bytes of one buffer placed in another: their length, and what a copy of them leaves. Assumes nothing.
use mathlib.Core.Path.{◌≡◌, refl, sym, ap, ◌∙◌}
use mathlib.Core.List.{List, [], ◌∷◌, ◌++◌, append-nil}
use Rattle.std.proofs.Common.{append_assoc}
use Prim.Native.Nat.{ℕ, ◌+◌, ◌-◌, ◌≤◌, ◌<◌}
use native.Mathlib.Nat.{zero-add}
use native.Mathlib.Numerals.{add-one}
use native.Mathlib.Omega.{arith}
use lib.ListN.{length, take, drop, get_or, set, length-drop, drop_of_length-le}
use borrow.Rule.Slice.PartMut.{put_mid}
use lib.Seq.{take-suc, take-length, length-take-le, drop-drop}
use Rattle.lent.specs.Lent.{placed}
use Rattle.lent.proofs.Over.{set_placed}

pub length_part : (at n : ℕ) (from : List ℕ) → at + n ≤ length from → length (take n (drop at from)) ≡ n
length_part at n from h = length-take-le n (drop at from) (rw length-drop (omega arith))

-- what a copy of a part of one buffer over a part of another leaves
pub copied : (from to : List ℕ) (at place n : ℕ) {part : List ℕ} → part ≡ take (at + n - at) (drop at from) → at + n ≤ length from
    → put_mid place (place + n - place) to part ≡ placed place (take n (drop at from)) to
unfolding placed
copied from to at place n is h =
    let m : at + n - at ≡ n = omega arith in
    let k : place + n - place ≡ n = omega arith in
    rw (is, m, k, length_part at n from h, drop-drop, append_assoc) refl

-- a copy byte by byte: one byte more, and all of them
pub placed_more : (i : ℕ) (from to : List ℕ) → i < length from → i < length to
    → set (placed 0 (take i from) to) i (get_or from i 0) ≡ placed 0 (take (i + 1) from) to
placed_more i from to h k =
    let part : List ℕ = take i from in
    let end : 0 + length part ≡ i = omega (arith, length-take-le i from (omega arith)) in
    let more : take (i + 1) from ≡ part ++ get_or from i 0 ∷ [] = rw (add-one, take-suc from i 0 h) in
    ap (λ (n : ℕ). set (placed 0 part to) n (get_or from i 0)) (sym end)
    ∙ set_placed 0 part to (get_or from i 0) (rw end k)
    ∙ ap (λ (s : List ℕ). placed 0 s to) (sym more)

pub placed_all : (from to : List ℕ) → length to ≡ length from → placed 0 (take (length from) from) to ≡ from
unfolding placed
placed_all from to same =
    let none : drop (length from) to ≡ [] = drop_of_length-le to (omega arith) in
    rw (take-length from, zero-add, none) (append-nil from)
