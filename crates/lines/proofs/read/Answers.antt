-- `lines::read` meets its contract. The loop's invariant: what is left, read from here, is the whole (LeftToRead.antt). Assumes nothing.
use mathlib.Core.Path.{refl, sym, ◌∙◌}
use native.Mathlib.Omega.{arith}
use Prim.Native.Nat.{◌+◌}
use lib.ListN.{drop}
use borrow.Author.Tests.{eq-eqb, ne_eqb}
use Rattle.lines.proofs.LineWays.{closed_open, closed_shut}
use Rattle.lines.proofs.LeftToRead.{read_stopped, step_left, end_left, fine_fresh, count_fresh, count_stepped}
use Rattle.lines.proofs.read.Goals as goal

pub loop-b-init : goal.loop-b-init
loop-b-init c = rw c.fresh-lines.ensures (fine_fresh, count_fresh, refl)

pub take-requires : goal.take-requires
take-requires c = c.loop-b.invariant.1

pub returns-then-lines-ne0 : goal.returns-then-lines-ne0
returns-then-lines-ne0 c =
    let input = c.args.input.now in
    let loop = c.loop-b in
    let t = c.take.new.self in
    sym (read_stopped t (drop (loop.b-index + 1) input) c.if-lines-ne0.true)
    ∙ step_left loop.lines t input loop.b-index c.loop-b-test.true loop.invariant.0 c.take.ensures
    ∙ loop.invariant.2

pub loop-b-preserved : goal.loop-b-preserved
loop-b-preserved c =
    let input = c.args.input.now in
    let loop = c.loop-b in
    let t = c.take.new.self in (
      c.if-lines-ne0.false,
      rw c.take.ensures (count_stepped loop.lines _ loop.invariant.1),
      step_left loop.lines t input loop.b-index c.loop-b-test.true loop.invariant.0 c.take.ensures ∙ loop.invariant.2,
    )

pub end-requires : goal.end-requires
end-requires c = c.loop-b.invariant.1

pub returns-then-lines-ne0-2 : goal.returns-then-lines-ne0-2
returns-then-lines-ne0-2 c =
    let loop = c.loop-b in
    let begun = closed_open loop.lines (rw (eq-eqb _ _ loop.invariant.0, ne_eqb _ _ c.if-lines-ne0-2.true) refl) in
    c.end.ensures ∙ begun ∙ end_left loop.lines c.args.input.now loop.b-index (omega arith) ∙ loop.invariant.2

pub returns-else-lines-ne0-2 : goal.returns-else-lines-ne0-2
returns-else-lines-ne0-2 c =
    let loop = c.loop-b in
    let shut = closed_shut loop.lines (rw (eq-eqb _ _ loop.invariant.0, eq-eqb _ _ c.if-lines-ne0-2.false) refl) in
    shut ∙ end_left loop.lines c.args.input.now loop.b-index (omega arith) ∙ loop.invariant.2
