-- `walk::Walk::ask` meets its contract: refused, or what is to be sent, put into the room (AskWays.antt). Assumes nothing.
use mathlib.Core.Path.{sym}
use lib.ListN.{length}
use Rattle.std.proofs.lemmas.Result.{err_from_is_err_and}
use Rattle.refusals.specs.Number.{number_of}
use Rattle.walk.proofs.AskWays.{served_of_refusal, asks_refused, asks_served}
use Rattle.walk.proofs.Walk.ask.Goals as goal

pub returns-in_err-refusal : goal.returns-in_err-refusal
unfolding number_of
returns-in_err-refusal c =
    let p = err_from_is_err_and c.from_residual.result c.from_residual.ensures.1 in
    rw (p.1, p.2) (asks_refused c.args.self c.args.room.now _ c.in_err-refusal.ensures)

pub invariant_of-accepted : goal.invariant_of-accepted
unfolding number_of
invariant_of-accepted c = record { fits = (served_of_refusal c.args.self (length c.args.room.now) (sym c.in_ok-refusal.ensures)).accepted }

pub fill-requires : goal.fill-requires
unfolding number_of
fill-requires c = rw c.send-send.ensures (served_of_refusal c.args.self (length c.args.room.now) (sym c.in_ok-refusal.ensures)).enough

pub returns : goal.returns
unfolding number_of
returns c = asks_served c.args.self c.args.room.now _ _ c.in_ok-refusal.ensures c.send-send.ensures c.fill.ensures
