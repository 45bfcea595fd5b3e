-- `coil::decoder::good_bytes` meets its contract. The loop's invariant: no bit of the bytes passed is bad. Assumes nothing.
use mathlib.Core.Path.{◌≡◌}
use mathlib.Core.Bool.{false}
use Prim.Native.Nat.{ℕ, ◌*◌, ◌<◌}
use Rattle.coil.specs.Decoder.{is_bad}
use Rattle.coil.proofs.decoder.good_bytes.Given as goal

abbrev pub invariant-loop-i : goal.invariant-loop-i
invariant-loop-i l = (j : ℕ) → j < 4 * (16 * l.i) → is_bad l.track j ≡ false
