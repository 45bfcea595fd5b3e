-- `lines::Lines::end` meets its contract: the line is listed, or wrong. Assumes nothing.
use mathlib.Core.Path.{refl, sym, ◌∙◌}
use borrow.Author.Tests.{lt-ltb, le-ltb, eq-eqb, ne_eqb}
use Rattle.lines.specs.Lines.{listed}
use Rattle.lines.proofs.LineWays.{ended_uid, ended_wrong}
use Rattle.lines.proofs.Lines.end.Goals as goal
use Rattle.lines.proofs.Lines.end.Goals.{else-self-lt100-via-then-self-lt100+then-self-eq16+else-begins_e0, else-self-lt100-via-then-self-lt100+else-self-eq16, else-self-lt100-via-else-self-lt100}

pub returns-then-begins_e0 : goal.returns-then-begins_e0
unfolding listed
returns-then-begins_e0 c =
    ended_uid c.args.self.now (rw (lt-ltb _ _ c.if-self-lt100.true, eq-eqb _ _ c.if-self-eq16.true) (sym c.if-begins_e0.ensures))

pub returns-else-self-lt100 : goal.returns-else-self-lt100
returns-else-self-lt100 c =
    let s = c.args.self.now in
    elim c.else-self-lt100.branch [
      | else-self-lt100-via-then-self-lt100+then-self-eq16+else-begins_e0 w ↦
          c.wrong.ensures ∙ ended_wrong s (rw (lt-ltb _ _ w.if-self-lt100.true, eq-eqb _ _ w.if-self-eq16.true) (sym w.begins_e0.ensures ∙ w.if-begins_e0.false))
      | else-self-lt100-via-then-self-lt100+else-self-eq16 w ↦
          c.wrong.ensures ∙ ended_wrong s (rw (lt-ltb _ _ w.if-self-lt100.true, ne_eqb _ _ w.if-self-eq16.false) refl)
      | else-self-lt100-via-else-self-lt100 w ↦ c.wrong.ensures ∙ ended_wrong s (rw (le-ltb _ _ w.if-self-lt100.false) refl)
    ]
