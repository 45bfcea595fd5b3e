-- `frames::seal` meets its contract: refused for want of room, else the check's two bytes. Assumes nothing.
use mathlib.Core.Path.{◌∙◌}
use Rattle.std.proofs.lemmas.Result.{err_from_is_err_and}
use Rattle.refusals.specs.Number.{number, number_back}
use Rattle.frames.proofs.Ways.{seals_refused, seals_part}
use Rattle.frames.proofs.seal.Goals as goal

pub returns-in_err-end : goal.returns-in_err-end
unfolding number_back number
returns-in_err-end c =
    let p = err_from_is_err_and c.from_residual.result c.from_residual.ensures.1 in
    rw (p.1, p.2, c.in_err-end.ensures.0) (seals_refused _ _ c.in_err-end.ensures.1)

pub returns : goal.returns
unfolding number_back
returns c =
    let room = c.in_ok-end.ensures in
    let copied = c.copy_from_slice.ensures in
    seals_part _ _ room.0 room.1 c.check-x.ensures (copied.after ∙ c.to_le_bytes.ensures)
