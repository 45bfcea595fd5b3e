-- `row::play::answer_in` meets its contract: one answer is written and sealed, of none or more the bytes stay 0. Assumes nothing.
use mathlib.Core.Path.{refl}
use borrow.Author.Tests.{ne_eqb}
use Rattle.row.specs.Steps.{no_answer, bytes_heard}
use Rattle.row.proofs.Answer.{answer_sealed}
use Rattle.row.proofs.play.answer_in.Goals as goal

pub returns-then-air-eq1 : goal.returns-then-air-eq1
unfolding bytes_heard
returns-then-air-eq1 c = rw c.if-air-eq1.true (answer_sealed _ c.put_field.ensures c.seal.ensures)

pub returns-else-air-eq1 : goal.returns-else-air-eq1
unfolding bytes_heard no_answer
returns-else-air-eq1 c = rw (ne_eqb _ _ c.if-air-eq1.false) refl
