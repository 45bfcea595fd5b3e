-- A number over the length of a list counts as that length: the first so many and the rest are the same. Assumes nothing.
use mathlib.Core.Path.{◌≡◌, sym, ◌∙◌}
use Prim.Native.Nat.{ℕ, min}
use mathlib.Core.List.{List, ◌++◌}
use lib.ListN.{length, take, drop, length-append, length-drop}
use lib.Seq.{length-take-le, take_at}
use native.Mathlib.Omega.{arith}
use Rattle.std.proofs.lemmas.List.{take_min, drop_min}

pub take_most : {X : Type 0} (most n m : ℕ) (xs : List X) → length xs ≡ most → m ≡ min n most → take m xs ≡ take n xs
take_most most n m xs l is = rw (is, ← l) (take_min n xs)

pub drop_most : {X : Type 0} (most n m : ℕ) (xs : List X) → length xs ≡ most → m ≡ min n most → drop m xs ≡ drop n xs
drop_most most n m xs l is = rw (is, ← l) (drop_min n xs)

-- the first so many of a row that keeps what is past them
pub take_kept : {X : Type 0} (most n m : ℕ) (xs ys : List X) → length ys ≡ most → m ≡ min n most → length xs ≡ length (take m ys) → take n (xs ++ drop m ys) ≡ xs
take_kept most n m xs ys l is same =
    let cut : length (take m ys) ≡ m = length-take-le m ys (omega arith) in
    let all : length (xs ++ drop m ys) ≡ most = simp (length-append, length-drop) (omega arith) in
    sym (take_most most n m (xs ++ drop m ys) all is) ∙ take_at xs (drop m ys) m (same ∙ cut)
