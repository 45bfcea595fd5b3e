-- `tracks::coder::put` meets its contract: by the coding. Assumes nothing.
use native.Mathlib.Omega.{arith}
use Rattle.tracks.proofs.Units.{unit_of_4, unit_of_256, coded_of_4, coded_of_256}
use Rattle.tracks.proofs.coder.put.Goals as goal

pub put_quad-requires : goal.put_quad-requires
put_quad-requires c = omega (arith, unit_of_4 _ c.if-coding-eq0.true)

pub put_long-requires : goal.put_long-requires
put_long-requires c = omega (arith, unit_of_256 _ c.if-coding-eq0.false)

pub returns-then-coding-eq0 : goal.returns-then-coding-eq0
returns-then-coding-eq0 c = rw (coded_of_4 _ _ c.if-coding-eq0.true) c.put_quad.ensures

pub returns-else-coding-eq0 : goal.returns-else-coding-eq0
returns-else-coding-eq0 c = rw (coded_of_256 _ _ c.if-coding-eq0.false) c.put_long.ensures
