-- The table's rule: the entry at i is what eight bits make of i, by one test that is computed entry after entry; and a byte goes into the register by its
-- entry. Assumes nothing.
use mathlib.Core.Path.{◌≡◌, refl, sym, ap, ◌∙◌}
use mathlib.Core.Bool.{Bool, true, ◌&&◌, and-eq-true_iff}
use mathlib.Core.List.{List, [], ◌∷◌}
use Prim.Native.Nat.{ℕ, zero, suc, ◌+◌, ◌/◌, ◌%◌, ◌<◌}
use native.Mathlib.Nat.{add-zero, zero-add, suc-add, add-suc}
use native.Mathlib.Omega.{arith}
use borrow.Author.Tests.{eqb-true}
use lib.Bits.{bit_xor}
use lib.Dec.{eqb}
use lib.ListN.{length, get_or}
use Rattle.crc.specs.Check.{shifted, shifts, taken}
use Rattle.crc.specs.Table.{table, taken_by_table}
use Rattle.crc.proofs.Linear.{shifts_apart}

-- each of some entries, the first of which stands at place i, is what eight bits make of its place
abbrev right : ℕ → List ℕ → Bool
right i [] = true
right i (e ∷ es) = eqb e (shifts 8 i) && right (suc i) es

right_at : (i : ℕ) (es : List ℕ) → right i es ≡ true → (k : ℕ) → k < length es → get_or es k 0 ≡ shifts 8 (i + k)
right_at i [] h k l = absurd (omega arith)
right_at i (e ∷ es) h zero l =
    eqb-true e (shifts 8 i) ((and-eq-true_iff (eqb e (shifts 8 i)) (right (suc i) es)).0 h).0 ∙ ap (shifts 8) (sym (add-zero i))
right_at i (e ∷ es) h (suc k) l =
    right_at (suc i) es ((and-eq-true_iff (eqb e (shifts 8 i)) (right (suc i) es)).0 h).1 k (omega arith)
    ∙ ap (shifts 8) (suc-add i k ∙ sym (add-suc i k))

all_right : right 0 table ≡ true
unfolding shifted shifts
all_right = refl

pub table_length : length table ≡ 256
table_length = refl

pub table_rule : (i : ℕ) → i < length table → get_or table i 0 ≡ shifts 8 i
table_rule i h = right_at 0 table all_right i h ∙ ap (shifts 8) (zero-add i)

-- a byte goes in by its entry
pub taken_by_table_lem : (x b : ℕ) → taken_by_table x b ≡ taken x b
unfolding taken_by_table taken
taken_by_table_lem x b =
    let y : ℕ = bit_xor x b in
    ap (bit_xor (y / 256)) (table_rule (y % 256) (omega arith)) ∙ sym (shifts_apart 8 y)
