-- `tracks::decoder::zeros_at` meets its contract. The loop's invariant: i bytes 00 passed and those that follow are all there are.
-- It holds of those that `blanks_at` passed. Assumes nothing.
use mathlib.Core.Path.{◌≡◌}
use Prim.Native.Nat.{◌+◌, ◌-◌, ◌≤◌}
use lib.ListN.{take, drop}
use Rattle.tracks.specs.Steps.{zeros}
use Rattle.tracks.proofs.decoder.zeros_at.Given as goal

abbrev pub invariant-loop-i : goal.invariant-loop-i
invariant-loop-i l = (l.i ≤ l.n) × (l.i + zeros (take (l.n - l.i) (drop (l.at + l.i) l.track)) ≡ zeros (take l.n (drop l.at l.track)))
