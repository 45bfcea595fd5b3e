-- `coil::decoder::put_bytes` meets its contract. The invariant of both loops: the first bytes, as many as were passed, stand in the answer; in the
-- second, over any list over which those of the first loop stand. Assumes nothing.
use mathlib.Core.List.{List}
use mathlib.Core.Path.{◌≡◌}
use Prim.Native.Nat.{ℕ, ◌*◌, ◌≤◌}
use lib.ListN.{length}
use Rattle.coil.specs.Decoder.{bytes_from}
use Rattle.lent.specs.Lent.{placed}
use Rattle.coil.proofs.decoder.put_bytes.Given as goal

abbrev pub invariant-loop-i : goal.invariant-loop-i
invariant-loop-i l = l.answer ≡ placed 0 (bytes_from l.track 0 (16 * l.i)) l.initial.answer

abbrev pub invariant-loop-k : goal.invariant-loop-k
invariant-loop-k l =
    (l.k ≤ l.n)
    × ((e : List ℕ) → l.n ≤ length e → l.initial.answer ≡ placed 0 (bytes_from l.track 0 l.initial.k) e → l.answer ≡ placed 0 (bytes_from l.track 0 l.k) e)
