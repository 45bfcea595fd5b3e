-- `tracks::decoder::all_bytes` meets its contract. The loop's invariant: the units left are bytes exactly if all are. Assumes nothing.
use mathlib.Core.Path.{◌≡◌}
use Prim.Native.Nat.{◌+◌, ◌-◌, ◌*◌}
use lib.ListN.{drop}
use Rattle.tracks.specs.Steps.{are_bytes}
use Rattle.tracks.specs.Track.{unit}
use Rattle.tracks.proofs.decoder.all_bytes.Given as goal

abbrev pub invariant-loop-i : goal.invariant-loop-i
invariant-loop-i l = are_bytes l.coding (l.n - l.i) (drop (1 + unit l.coding * l.i) l.track) ≡ are_bytes l.coding l.n (drop 1 l.track)
