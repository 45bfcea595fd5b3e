-- `tracks::pulse::unit_of` meets its contract: by the coding. Assumes nothing.
use borrow.Author.Tests.{eq-eqb, ne_eqb}
use Rattle.tracks.specs.Track.{unit}
use Rattle.tracks.proofs.pulse.unit_of.Goals as goal

pub returns-then-coding-eq0 : goal.returns-then-coding-eq0
unfolding unit
returns-then-coding-eq0 c = rw (eq-eqb _ _ c.if-coding-eq0.true)

pub returns-else-coding-eq0 : goal.returns-else-coding-eq0
unfolding unit
returns-else-coding-eq0 c = rw (ne_eqb _ _ c.if-coding-eq0.false)
