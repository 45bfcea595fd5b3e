-- Bytes of one buffer in another: copied over a part of it they are placed there, and so they are one by one. By the laws of appended lists and of `placed`.
-- Assumes nothing.
use mathlib.Core.Path.{◌≡◌, sym, ap, ◌∙◌}
use mathlib.Core.List.{List, [], ◌∷◌, ◌++◌, append-nil, append_assoc}
use Prim.Native.Nat.{ℕ, ◌+◌, ◌<◌}
use native.Mathlib.Nat.{zero-add}
use native.Mathlib.Numerals.{add-one}
use native.Mathlib.Omega.{arith}
use borrow.Rule.Slice.PartMut.{put_mid}
use lib.ListN.{length, take, drop, get_or, set, length-drop, drop_of_length-le}
use lib.Seq.{take-suc, take-length, get_or-drop, drop-drop}
use Rattle.lent.specs.Lent.{placed}
use Rattle.lent.proofs.Over.{set_placed}
use Rattle.reader.proofs.Taken.{length_part}

pub copied : (at n : ℕ) (e s : List ℕ) {left : List ℕ} → left ≡ s → n ≡ length s → put_mid at n e left ≡ placed at s e
unfolding placed
copied at n e s same long = rw (same, long, drop-drop (length s) at e) (sym (append_assoc (take at e) s (drop (at + length s) e)))

-- one byte more
pub part_suc : (at i : ℕ) (from : List ℕ) → at + i < length from
    → take (i + 1) (drop at from) ≡ take i (drop at from) ++ get_or from (at + i) 0 ∷ []
part_suc at i from h =
    let inside : i < length (drop at from) = rw length-drop (omega arith) in
    rw (add-one, take-suc (drop at from) i 0 inside, get_or-drop)

pub placed_part_suc : (at place i : ℕ) (from to : List ℕ) → at + i < length from → place + i < length to
    → set (placed place (take i (drop at from)) to) (place + i) (get_or from (at + i) 0) ≡ placed place (take (i + 1) (drop at from)) to
placed_part_suc at place i from to h k =
    let part : List ℕ = take i (drop at from) in
    let end : place + length part ≡ place + i = ap (λ (n : ℕ). place + n) (length_part at i from (omega arith)) in
    ap (λ (n : ℕ). set (placed place part to) n (get_or from (at + i) 0)) (sym end)
    ∙ set_placed place part to (get_or from (at + i) 0) (rw end k)
    ∙ ap (λ (s : List ℕ). placed place s to) (sym (part_suc at i from h))

-- all of them
pub placed_more : (i : ℕ) (from to : List ℕ) → i < length from → i < length to
    → set (placed 0 (take i from) to) i (get_or from i 0) ≡ placed 0 (take (i + 1) from) to
placed_more i from to h k = let more = placed_part_suc 0 0 i from to (omega arith) (omega arith) in simp zero-add at more

pub placed_all : (from to : List ℕ) → length to ≡ length from → placed 0 (take (length from) from) to ≡ from
unfolding placed
placed_all from to same =
    let none : drop (length from) to ≡ [] = drop_of_length-le to (omega arith) in
    rw (take-length from, zero-add, none) (append-nil from)
