-- `picture::line::round` meets its contract: a number of one, two or three digits. Assumes nothing.
use native.Mathlib.Omega.{arith}
use mathlib.Core.Path.{◌∙◌}
use Rattle.picture.proofs.Pieces.{round_1, round_2, round_3}
use Rattle.picture.proofs.line.round.Goals as goal
use Rattle.picture.proofs.line.round.Goals.{then-n-lt100, else-n-lt100, then-n-lt10, else-n-lt10}

pub returns : goal.returns
returns c =
    let n = c.args.n in
    elim c.if-n-lt100.branch [
      | then-n-lt100 w ↦
          elim c.if-n-lt10.branch [
            | then-n-lt10 v ↦ rw (w.hundreds-is, v.tens-is) (round_1 n (omega arith) c.digit.ensures)
            | else-n-lt10 v ↦ rw w.hundreds-is (round_2 n (omega arith) (omega arith) (v.tens-is ∙ v.digit-tens.ensures) c.digit.ensures)
          ]
      | else-n-lt100 w ↦
          elim c.if-n-lt10.branch [
            | then-n-lt10 v ↦ absurd (omega arith)
            | else-n-lt10 v ↦
                round_3 n (omega arith) (omega arith) (w.hundreds-is ∙ w.digit-hundreds.ensures) (v.tens-is ∙ v.digit-tens.ensures) c.digit.ensures
          ]
    ]
