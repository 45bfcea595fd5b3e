-- `coil::decoder::put_sixteen` meets its contract. The first loop's invariant: the bits of the first k bytes are gathered; the second's: the first
-- j bytes stand in the part of the answer. Assumes nothing.
use mathlib.Core.Path.{◌≡◌}
use Prim.Native.Nat.{ℕ, ◌+◌, ◌<◌}
use lib.ListN.{length, get_or}
use Rattle.coil.specs.Decoder.{bytes_from}
use Rattle.coil.specs.Steps.{four_bits}
use Rattle.lent.specs.Lent.{placed}
use Rattle.coil.proofs.decoder.put_sixteen.Given as goal

abbrev pub invariant-loop-k : goal.invariant-loop-k
invariant-loop-k l = (length l.four-items ≡ 32) × ((q : ℕ) → q < l.k → get_or l.four-items q 0 ≡ four_bits (get_or l.track (l.at + q) 0))

abbrev pub invariant-loop-j : goal.invariant-loop-j
invariant-loop-j l = l.byte-items ≡ placed 0 (bytes_from l.track l.i l.j) l.initial.byte-items
