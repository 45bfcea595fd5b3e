-- `digits::read_row` meets its contract. The loop's invariant: the bytes of the row that is left, placed here, come to the whole. Assumes nothing.
use mathlib.Core.Path.{◌≡◌}
use Prim.Native.Nat.{◌+◌, ◌*◌}
use lib.ListN.{length}
use Rattle.std.specs.Iterator.Adapters.{enumerate_source, enumerate_count}
use Rattle.std.specs.Slice.Iter.{chunks_exact_rest, chunks_exact_size}
use Rattle.lent.specs.Lent.{placed}
use Rattle.digits.specs.Rows.{row_bytes}
use Rattle.digits.proofs.read_row.Given as goal

abbrev pub invariant-loop-i : goal.invariant-loop-i
invariant-loop-i l =
    let left = enumerate_source l.i-iterator in
    let count = enumerate_count l.i-iterator in
    (chunks_exact_size left ≡ 3) × (3 * count + length (chunks_exact_rest left) ≡ length l.text)
    × (placed count (row_bytes (chunks_exact_rest left)) l.buffer ≡ placed 0 (row_bytes l.text) l.initial.buffer)
