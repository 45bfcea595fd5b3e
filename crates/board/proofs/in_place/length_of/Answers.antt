-- `length_of` keeps its promise: one length for each thing to send. Assumes nothing.
use Rattle.board.specs.Walked.{length_of}
use Rattle.board.proofs.in_place.length_of.Goals as goal

pub returns-in-Nothing : goal.returns-in-Nothing
unfolding length_of
returns-in-Nothing c = rw c.in-Nothing.is

pub returns-in-Mark : goal.returns-in-Mark
unfolding length_of
returns-in-Mark c = rw c.in-Mark.is

pub returns-in-Request : goal.returns-in-Request
unfolding length_of
returns-in-Request c = rw c.in-Request.is
