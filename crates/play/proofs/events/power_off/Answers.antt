-- `play::events::power_off` meets its contract: refused, or silence (EventWays.antt). Assumes nothing.
use Rattle.refusals.specs.Number.{number_of}
use Rattle.play.specs.Events.{off_event}
use Rattle.play.proofs.EventWays.{leaves_exit, leaves_served, leaves_off}
use Rattle.play.proofs.events.power_off.Goals as goal

pub returns-in_err-accept : goal.returns-in_err-accept
unfolding off_event number_of
returns-in_err-accept c =
    let args = c.args in
    leaves_exit args.card args.memory.now args.locks.now args.answer.now _ c.from_residual.result c.in_err-accept.field-0.0
    c.from_residual.ensures.1 c.in_err-accept.ensures

pub returns : goal.returns
unfolding off_event number_of
returns c =
    let args = c.args in
    leaves_served args.card args.memory.now args.locks.now args.answer.now _ _ _ _ _ _ c.in_ok-accept.ensures
    (leaves_off args.card c.power_off-off.result args.memory.now args.locks.now args.answer.now c.power_off-off.ensures)
