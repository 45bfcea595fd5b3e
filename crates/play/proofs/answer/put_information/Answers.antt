-- `play::answer::put_information` meets its contract: two stores, the UID as a field, and five stores after it. The shape fits, so
-- that blocks and size less 1 are bytes. Assumes nothing.
use native.Mathlib.Omega.{arith}
use lib.ListN.{length-set}
use Rattle.card.proofs.Accepted.{shape_of}
use Rattle.frames.proofs.Ways.{puts_field_ok}
use Rattle.play.proofs.Answers.{puts_information}
use Rattle.play.proofs.answer.put_information.Goals as goal

pub unwrap-requires : goal.unwrap-requires
unwrap-requires c = puts_field_ok c.put_field.result c.put_field.ensures (simp length-set (omega (arith, c.requires.in_bounds)))

pub overflow_sub-answer : goal.overflow_sub-answer
overflow_sub-answer c = (shape_of _ _ c.requires.size_value).block

pub overflow_cast-answer : goal.overflow_cast-answer
overflow_cast-answer c = omega (arith, shape_of _ _ c.requires.size_value)

pub overflow_sub-answer-2 : goal.overflow_sub-answer-2
overflow_sub-answer-2 c = (shape_of _ _ c.requires.size_value).byte

pub overflow_cast-answer-2 : goal.overflow_cast-answer-2
overflow_cast-answer-2 c = omega (arith, shape_of _ _ c.requires.size_value)

pub returns : goal.returns
returns c = puts_information c.args.card c.args.answer.now c.put_field.ensures c.requires.in_bounds
