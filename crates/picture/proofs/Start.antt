-- What is drawn and printed for an input is told by its first 1701 bytes: a longer one has a wrong line, and so has its start. Assumes nothing.
use mathlib.Core.Path.{◌≡◌, ap}
use Prim.Native.Nat.{ℕ, ◌≤◌, ◌<◌}
use native.Mathlib.Decide.{dec_lt}
use native.Mathlib.Omega.{arith}
use mathlib.Core.List.{List}
use borrow.Author.Tests.{ne_eqb}
use lib.ListN.{length, take}
use lib.Seq.{take_all}
use Rattle.lines.specs.Input.{bad_line}
use Rattle.lines.proofs.Start.{told_by_start}
use Rattle.report.proofs.Start.{printed_of_start}
use Rattle.picture.specs.Drawn.{pictured}

pub pictured_of_start : (k : ℕ) (input : List ℕ) → 1701 ≤ k → pictured (take k input) ≡ pictured input
unfolding pictured
pictured_of_start k input h = go (dec_lt k (length input))
  where
    go : Dec (k < length input) → pictured (take k input) ≡ pictured input
    go (yes l) =
        let told = told_by_start k input h l in
        rw (told.same, ne_eqb (bad_line input) 0 told.wrong, printed_of_start k input h)
    go (no l) = ap pictured (take_all k input (omega (arith, l)))
