-- `tracks::coder::put_quad` meets its contract: four stores place four bytes. Assumes nothing.
use native.Mathlib.Omega.{arith}
use Rattle.tracks.specs.Track.{quad}
use Rattle.lent.proofs.Over.{set_four}
use Rattle.tracks.proofs.coder.put_quad.Goals as goal

pub returns : goal.returns
unfolding quad
returns c =
    let pattern-of = c.pattern_of-a in
    let pattern-of2 = c.pattern_of-b in
    let pattern-of3 = c.pattern_of-c in
    let pattern-of4 = c.pattern_of-d in
    rw (pattern-of.ensures, pattern-of2.ensures, pattern-of3.ensures, pattern-of4.ensures) (set_four _ _ _ _ _ _ (omega arith))
