-- `play::effects::copy_all` meets its contract. The loop's invariant: the first i bytes are placed (Copy.antt). Assumes nothing.
use native.Mathlib.Omega.{arith}
use mathlib.Core.Path.{◌≡◌, sym, ◌∙◌}
use lib.ListN.{length}
use Rattle.play.proofs.Copy.{placed_more, placed_all}
use Rattle.lent.proofs.Over.{placed_none}
use Rattle.play.proofs.effects.copy_all.Goals as goal

pub loop-i-init : goal.loop-i-init
loop-i-init c = sym (placed_none _ _)

pub loop-i-preserved : goal.loop-i-preserved
loop-i-preserved c =
    let args = c.args in
    let longer = placed_more c.loop-i.i args.from.now args.to.now (omega arith) (omega arith) in
    rw c.loop-i.invariant longer

pub returns-clause-after : goal.returns-clause-after
returns-clause-after c =
    let all : c.loop-i.i ≡ length c.args.from.now = omega arith in
    (rw all at c.loop-i.invariant) ∙ placed_all c.args.from.now c.args.to.now c.requires
