-- `tracks::decoder::byte_at` meets its contract: by the coding. Assumes nothing.
use native.Mathlib.Omega.{arith}
use Rattle.tracks.proofs.Units.{unit_of_4, unit_of_256}
use Rattle.tracks.proofs.Reading.{byte_of_4, byte_of_256}
use Rattle.tracks.proofs.decoder.byte_at.Goals as goal

pub quad_at-requires : goal.quad_at-requires
quad_at-requires c = omega (arith, unit_of_4 _ c.if-coding-eq0.true)

pub lone_at-requires : goal.lone_at-requires
lone_at-requires c = omega (arith, unit_of_256 _ c.if-coding-eq0.false)

pub returns-then-coding-eq0 : goal.returns-then-coding-eq0
returns-then-coding-eq0 c = rw (unit_of_4 _ c.if-coding-eq0.true, byte_of_4 _ _ c.if-coding-eq0.true) c.quad_at.ensures

pub returns-else-coding-eq0 : goal.returns-else-coding-eq0
returns-else-coding-eq0 c = rw (unit_of_256 _ c.if-coding-eq0.false, byte_of_256 _ _ c.if-coding-eq0.false) c.lone_at.ensures
