-- `tracks::decoder::is_slot_mark` meets its contract: the definition goes by the same two tests. Assumes nothing.
use borrow.Author.Tests.{eq-eqb, ne_eqb}
use Rattle.tracks.specs.Steps.{is_slot_mark}
use Rattle.tracks.proofs.decoder.is_slot_mark.Goals as goal

pub returns-then-track-eq1 : goal.returns-then-track-eq1
unfolding is_slot_mark
returns-then-track-eq1 c = rw (eq-eqb _ _ c.if-track-eq1.true)

pub returns-else-track-eq1 : goal.returns-else-track-eq1
unfolding is_slot_mark
returns-else-track-eq1 c = rw (ne_eqb _ _ c.if-track-eq1.false)
