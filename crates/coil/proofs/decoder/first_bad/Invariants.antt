-- `coil::decoder::first_bad` meets its contract. The loop's invariant: no bit of the bytes passed is bad; the first with a flaw has the first bad bit.
-- Assumes nothing.
use mathlib.Core.Path.{◌≡◌}
use mathlib.Core.Bool.{false}
use Prim.Native.Nat.{ℕ, ◌*◌, ◌<◌, ◌≤◌}
use Rattle.coil.specs.Decoder.{is_bad}
use Rattle.coil.proofs.decoder.first_bad.Given as goal

abbrev pub invariant-loop-i : goal.invariant-loop-i
invariant-loop-i l = (l.i ≤ l.n) × ((j : ℕ) → j < 4 * l.i → is_bad l.track j ≡ false)
