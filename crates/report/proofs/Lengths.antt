-- How long a choice of two texts and the word of an ending are, at the most. By their tests. Assumes nothing.
use mathlib.Core.Bool.{Bool, true, false, cond}
use mathlib.Core.List.{List}
use Prim.Native.Nat.{ℕ, ◌≤◌}
use native.Mathlib.Omega.{arith}
use lib.Dec.{eqb}
use lib.ListN.{length}
use Rattle.report.specs.Output.{word}

pub length_either : (t : Bool) (x y : List ℕ) (n : ℕ) → length x ≤ n → length y ≤ n → length (cond t x y) ≤ n
length_either true x y n h k = h
length_either false x y n h k = k

pub length_word : (ending : ℕ) → length (word ending) ≤ 8
unfolding word
length_word ending =
    length_either (eqb ending 1) _ _ 8 (omega arith)
    (length_either (eqb ending 2) _ _ 8 (omega arith) (length_either (eqb ending 3) _ _ 8 (omega arith) (omega arith)))
