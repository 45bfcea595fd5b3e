-- `lines::read` meets its contract. The loop's invariant: what is left, read from here, is the whole (LeftToRead.antt). Assumes nothing.
use mathlib.Core.Path.{◌≡◌}
use Prim.Native.Nat.{◌≤◌}
use lib.ListN.{drop}
use Rattle.lines.specs.Lines.{fresh_lines, read_from}
use Rattle.lines.proofs.read.Given as goal

abbrev pub invariant-loop-b : goal.invariant-loop-b
invariant-loop-b l =
    (l.lines.bad ≡ 0) × (l.lines.count ≤ 100) × (read_from l.lines (drop l.b-index l.input) ≡ read_from fresh_lines l.input)
