-- `tracks::coder::put_long` meets its contract: one store into a blank unit. Assumes nothing.
use native.Mathlib.Omega.{arith}
use Rattle.tracks.proofs.Units.{placed_long}
use Rattle.tracks.proofs.coder.put_long.Goals as goal

pub returns : goal.returns
returns c =
    let clear = c.clear in
    let pattern-of = c.pattern_of in
    rw (clear.ensures, pattern-of.ensures, c.from-place.ensures) (placed_long _ _ _ (omega arith) (omega arith))
