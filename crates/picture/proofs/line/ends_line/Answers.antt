-- `picture::line::ends_line` meets its contract, by its one test. Assumes nothing.
use mathlib.Core.Path.{refl}
use borrow.Author.Tests.{eq-eqb, ne_eqb}
use Rattle.walk.specs.Record.{is_running}
use Rattle.picture.proofs.line.ends_line.Goals as goal

pub returns-then-walk-eq15 : goal.returns-then-walk-eq15
unfolding is_running
returns-then-walk-eq15 c = rw (eq-eqb _ 15 c.if-walk-eq15.true) refl

pub returns-else-walk-eq15 : goal.returns-else-walk-eq15
unfolding is_running
returns-else-walk-eq15 c = rw (ne_eqb _ 15 c.if-walk-eq15.false) refl
