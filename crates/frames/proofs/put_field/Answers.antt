-- `frames::put_field` meets its contract: refused for want of room, else `fill`. Assumes nothing.
use Rattle.std.proofs.lemmas.Result.{err_from_is_err_and}
use Rattle.refusals.specs.Number.{number, number_back}
use Rattle.frames.proofs.Ways.{puts_refused, puts_part}
use Rattle.frames.proofs.put_field.Goals as goal

pub returns-in_err-end : goal.returns-in_err-end
unfolding number_back number
returns-in_err-end c =
    let p = err_from_is_err_and c.from_residual.result c.from_residual.ensures.1 in
    rw (p.1, p.2, c.in_err-end.ensures.0) (puts_refused _ _ _ _ c.in_err-end.ensures.1)

pub returns : goal.returns
unfolding number_back
returns c = let room = c.in_ok-end.ensures in puts_part _ _ _ _ room.0 room.1 c.fill.ensures
