-- `play::answer::put_locks` meets its contract: the first byte, and a copy after it. Assumes nothing.
use Rattle.play.specs.Answer.{locks_read}
use Rattle.play.proofs.Copy.{length_part, copied}
use Rattle.play.proofs.Answers.{puts_first}
use Rattle.play.proofs.answer.put_locks.Goals as goal

pub returns : goal.returns
unfolding locks_read
returns c =
    let args = c.args in
    let asked = c.requires in
    rw (copied args.locks.now _ args.first 1 args.n c.copy_all.ensures.after asked.n_in_bounds)
    (puts_first 0x00 args.n _ _ (length_part args.first args.n args.locks.now asked.n_in_bounds) asked.n_in_bounds_2)
