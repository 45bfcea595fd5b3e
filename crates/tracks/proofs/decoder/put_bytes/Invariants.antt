-- `tracks::decoder::put_bytes` meets its contract. The loop's invariant: the first i bytes stand in the frame, and the units left are bytes.
-- Assumes nothing.
use mathlib.Core.Path.{◌≡◌}
use mathlib.Core.Bool.{true}
use Prim.Native.Nat.{◌+◌, ◌-◌, ◌*◌}
use lib.ListN.{drop}
use Rattle.tracks.specs.Steps.{are_bytes, bytes_of}
use Rattle.tracks.specs.Track.{unit}
use Rattle.lent.specs.Lent.{placed}
use Rattle.tracks.proofs.decoder.put_bytes.Given as goal

abbrev pub invariant-loop-i : goal.invariant-loop-i
invariant-loop-i l =
    (are_bytes l.coding (l.n - l.i) (drop (1 + unit l.coding * l.i) l.track) ≡ true)
    × (l.byte-items ≡ placed 0 (bytes_of l.coding l.i (drop 1 l.track)) l.initial.byte-items)
