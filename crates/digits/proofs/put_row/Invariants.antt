-- `digits::put_row` meets its contract. The loop's invariant: the row of the bytes that are left, placed here, comes to the whole. Assumes nothing.
use mathlib.Core.Path.{◌≡◌}
use Prim.Native.Nat.{◌+◌, ◌*◌}
use lib.ListN.{drop}
use Rattle.lent.specs.Lent.{placed}
use Rattle.digits.specs.Rows.{row_text}
use Rattle.digits.proofs.put_row.Given as goal

abbrev pub invariant-loop-b : goal.invariant-loop-b
invariant-loop-b l =
    (l.next ≡ l.at + 3 * l.b-index) × (placed l.next (row_text (drop l.b-index l.bytes)) l.text ≡ placed l.at (row_text l.bytes) l.initial.text)
