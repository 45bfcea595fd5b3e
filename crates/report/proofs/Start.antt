-- What is printed for an input is told by its first 1701 bytes: a longer one has a wrong line, and its start tells which. Assumes nothing.
use mathlib.Core.Path.{◌≡◌, ap}
use Prim.Native.Nat.{ℕ, ◌≤◌, ◌<◌}
use native.Mathlib.Decide.{dec_lt}
use native.Mathlib.Omega.{arith}
use mathlib.Core.List.{List}
use borrow.Author.Tests.{ne_eqb}
use lib.ListN.{length, take}
use lib.Seq.{take_all}
use Rattle.lines.specs.Input.{bad_line}
use Rattle.lines.proofs.Start.{told_by_start}
use Rattle.report.specs.Bench.{printed}

pub printed_of_start : (k : ℕ) (input : List ℕ) → 1701 ≤ k → printed (take k input) ≡ printed input
unfolding printed
printed_of_start k input h = go (dec_lt k (length input))
  where
    go : Dec (k < length input) → printed (take k input) ≡ printed input
    go (yes l) =
        let told = told_by_start k input h l in
        rw (told.same, ne_eqb (bad_line input) 0 told.wrong)
    go (no l) = ap printed (take_all k input (omega (arith, l)))
