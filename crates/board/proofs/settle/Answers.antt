-- `settle` meets its contract: refused, or the next record written (Ways.antt). Assumes nothing.
use borrow.Author.Rules.{sfits_of}
use native.Mathlib.Omega.{arith}
use mir.ValLaws.{to_z_pos, to_z-of_z}
use mir.Syntax.{w64}
use Rattle.play.specs.Events.{length_of}
use Rattle.board.proofs.Ways.{settles_refused, settles_served}
use Rattle.board.proofs.settle.Goals as goal

pub overflow_cast-result : goal.overflow_cast-result
unfolding length_of
overflow_cast-result c = sfits_of (omega (arith, rw c.in-Ok.is at c.requires))

pub returns-in-Ok : goal.returns-in-Ok
unfolding length_of
returns-in-Ok c =
    rw (c.in-Ok.is, to_z_pos w64 c.in-Ok.served.length (omega (arith, rw c.in-Ok.is at c.requires)))
    (settles_served c.args.bytes.now c.in-Ok.served c.write.ensures.leaves)

pub returns-in-Err : goal.returns-in-Err
returns-in-Err c =
    rw (c.in-Err.is, to_z-of_z w64 c.minus.result (sfits_of c.minus.type_inv)) (settles_refused c.args.bytes.now c.in-Err.refused c.minus.ensures)
