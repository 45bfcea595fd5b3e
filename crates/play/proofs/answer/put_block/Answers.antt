-- `play::answer::put_block` meets its contract, by the option: a copy, or a lock byte and a copy after it. Assumes nothing.
use Prim.Native.Nat.{◌*◌}
use native.Mathlib.Omega.{arith}
use Rattle.play.proofs.Blocks.{lead_asked, puts_block, puts_locked}
use Rattle.play.proofs.Copy.{copied}
use Rattle.play.proofs.answer.put_block.Goals as goal
use Rattle.play.proofs.answer.put_block.Goals.{then-option, else-option}

pub bounds-answer-at : goal.bounds-answer-at
bounds-answer-at c = omega (arith, lead_asked c.if-option.true)

pub slice_bounds-copy_all-end : goal.slice_bounds-copy_all-end
slice_bounds-copy_all-end c =
    elim c.if-option.branch [
      | then-option w ↦ omega (arith, lead_asked w.if-option.true, w.at-is, c.if-option.auto.answer)
      | else-option w ↦ omega (arith, w.at-is, c.if-option.auto.answer)
    ]

pub returns : goal.returns
returns c =
    let args = c.args in
    let asked = c.requires in
    rw (copied args.memory.now c.if-option.answer (args.block * args.size) c.if-option.at args.size c.copy_all.ensures.after asked.size_in_bounds)
    (elim c.if-option.branch [
      | then-option w ↦ rw (w.at-is, w.answer-is, w.if-option.true) (puts_locked _ _ _ _ _ _ asked.size_in_bounds (rw (lead_asked w.if-option.true) at asked.option_in_bounds))
      | else-option w ↦ rw (w.at-is, w.answer-is, w.if-option.false) (puts_block _ _ _ _ _ _ asked.size_in_bounds)
    ])
