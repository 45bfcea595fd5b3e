-- `play::events::frame` meets its contract: refused, or the deed carried out, which stays within the card (ReadyFor.antt). Assumes nothing.
use mathlib.Core.Path.{refl}
use lib.ListN.{length}
use Rattle.refusals.specs.Number.{number_of}
use Rattle.play.specs.Events.{frame_event}
use Rattle.play.proofs.EventWays.{leaves_exit, leaves_served}
use Rattle.play.proofs.ReadyFor.{deed_ready}
use Rattle.play.proofs.events.frame.Goals as goal

pub returns-in_err-accept : goal.returns-in_err-accept
unfolding frame_event number_of
returns-in_err-accept c =
    let args = c.args in
    leaves_exit args.card args.memory.now args.locks.now args.answer.now _ c.from_residual.result c.in_err-accept.field-0.0
    c.from_residual.ensures.1 c.in_err-accept.ensures

pub carry_out-requires : goal.carry_out-requires
unfolding number_of
carry_out-requires c =
    let args = c.args in
    deed_ready args.card args.frame.now (length args.memory.now) args.locks.now (length args.answer.now)
    0 c.decide-deed.result c.in_ok-accept.ensures refl c.decide-deed.ensures

pub returns : goal.returns
unfolding frame_event number_of
returns c =
    let args = c.args in
    leaves_served args.card args.memory.now args.locks.now args.answer.now _ _ _ _ _ _ c.in_ok-accept.ensures
    (rw c.decide-deed.ensures at c.carry_out.ensures)
