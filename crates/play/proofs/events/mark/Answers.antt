-- `play::events::mark` meets its contract: refused, or the turn's reply (EventWays.antt). Assumes nothing.
use mathlib.Core.Path.{refl}
use native.Mathlib.Omega.{arith}
use lib.ListN.{length}
use Rattle.refusals.specs.Number.{number_of}
use Rattle.play.specs.Events.{mark_event}
use Rattle.play.proofs.EventWays.{leaves_exit, leaves_served, leaves_turn}
use Rattle.play.proofs.ReadyFor.{mark_ready}
use Rattle.play.proofs.Room.{room_of}
use Rattle.play.proofs.events.mark.Goals as goal

pub returns-in_err-accept : goal.returns-in_err-accept
unfolding mark_event number_of
returns-in_err-accept c =
    let args = c.args in
    leaves_exit args.card args.memory.now args.locks.now args.answer.now _ c.from_residual.result c.in_err-accept.field-0.0
    c.from_residual.ensures.1 c.in_err-accept.ensures

pub put_brief-n-requires : goal.put_brief-n-requires
unfolding number_of
put_brief-n-requires c =
    let args = c.args in
    let turn = c.hear_mark-reply in
    let t = mark_ready args.card (length args.memory.now) args.locks.now (length args.answer.now)
    0 turn.result c.in_ok-accept.ensures refl turn.ensures in
    record {
      reply_value = t.brief;
      in_bounds = omega (arith, (room_of turn.result.card (length args.answer.now) t.ready.fits).least);
    }

pub returns : goal.returns
unfolding mark_event number_of
returns c =
    let args = c.args in
    let turn = c.hear_mark-reply in
    let t = mark_ready args.card (length args.memory.now) args.locks.now (length args.answer.now)
    0 turn.result c.in_ok-accept.ensures refl turn.ensures in
    leaves_served args.card args.memory.now args.locks.now args.answer.now _ _ _ _ _ _ c.in_ok-accept.ensures
    (leaves_turn args.card turn.result args.memory.now args.locks.now args.answer.now turn.ensures t.brief c.put_brief-n.ensures.puts c.finish-length.ensures)
