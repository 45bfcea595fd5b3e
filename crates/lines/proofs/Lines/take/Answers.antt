-- `lines::Lines::take` meets its contract: the line ends, has a digit more or is wrong, by the tests. Assumes nothing.
use native.Mathlib.Omega.{arith}
use mathlib.Core.Path.{sym, ◌∙◌}
use borrow.Author.Tests.{lt-ltb}
use Rattle.lines.specs.Lines.{pushed}
use Rattle.digits.proofs.Digits.{value_is, value_none}
use Rattle.lines.proofs.LineWays.{longer_digit, longer_101, longer_17, longer_other, stepped_end, stepped_longer}
use Rattle.lines.proofs.Lines.take.Goals as goal
use Rattle.lines.proofs.Lines.take.Goals.{in_default-via-in-Some+then-self-lt100+else-self-lt16, in_default-via-in-Some+else-self-lt100, in_default-via-in_default}

pub returns-then-b-eq10 : goal.returns-then-b-eq10
returns-then-b-eq10 c = c.end.ensures ∙ stepped_end _ _ c.if-b-eq10.true

pub overflow_add-self-in-Some : goal.overflow_add-self-in-Some
overflow_add-self-in-Some c =
    let digit = value_is c.args.b c.in-Some.d (sym c.in-Some.ensures) in
    omega (arith, digit.1, c.from.ensures)

pub returns-in-Some : goal.returns-in-Some
unfolding pushed
returns-in-Some c =
    let s = c.args.self.now in
    let digit = value_is c.args.b c.in-Some.d (sym c.in-Some.ensures) in
    let is = c.from.ensures ∙ digit.0 in
    longer_digit s c.args.b c.from.result is (rw (lt-ltb _ _ c.if-self-lt100.true, lt-ltb _ _ c.if-self-lt16.true) (lt-ltb _ _ (omega (arith, digit.1, c.from.ensures))))
    ∙ stepped_longer s c.args.b c.if-b-eq10.false

pub returns-in_default : goal.returns-in_default
returns-in_default c =
    let s = c.args.self.now in
    let b = c.args.b in
    let end = stepped_longer s b c.if-b-eq10.false in
    elim c.in_default.branch [
      | in_default-via-in-Some+then-self-lt100+else-self-lt16 w ↦
          c.wrong.ensures ∙ longer_17 s b w.if-self-lt100.true (omega (arith, w.if-self-lt16.false)) ∙ end
      | in_default-via-in-Some+else-self-lt100 w ↦ c.wrong.ensures ∙ longer_101 s b (omega (arith, w.if-self-lt100.false)) ∙ end
      | in_default-via-in_default w ↦ c.wrong.ensures ∙ longer_other s b (value_none b (sym w.in_default.ensures)) ∙ end
    ]
