-- `walk::Walk::hear_shared` meets its contract: refused, or the slot judged and its row taken (SharedWays.antt). Assumes nothing.
use mathlib.Core.Path.{sym}
use native.Mathlib.Omega.{arith}
use lib.ListN.{length}
use Rattle.std.proofs.lemmas.Result.{err_from_is_err_and}
use Rattle.refusals.specs.Number.{number_of}
use Rattle.walk.proofs.Owners.{owners_fit_of}
use Rattle.walk.proofs.SharedWays.{shared_served_of, hears_shared_served, hears_shared_refused}
use Rattle.walk.proofs.Walk.hear_shared.Goals as goal

pub returns-in_err-hear_refusal : goal.returns-in_err-hear_refusal
unfolding number_of
returns-in_err-hear_refusal c =
    let args = c.args in
    let p = err_from_is_err_and c.from_residual.result c.from_residual.ensures.1 in
    rw (p.1, p.2) (hears_shared_refused args.self args.rack args.kind args.bytes.now args.rows.now args.owners.now _ c.in_err-hear_refusal.ensures)

pub invariant_of-accepted : goal.invariant_of-accepted
unfolding number_of
invariant_of-accepted c =
    let args = c.args in
    record { fits = (shared_served_of args.self args.rack (length args.rows.now) args.owners.now (sym c.in_ok-hear_refusal.ensures)).accepted }

pub overflow_cast-rack : goal.overflow_cast-rack
unfolding number_of
overflow_cast-rack c =
    let args = c.args in
    omega (arith, (shared_served_of args.self args.rack (length args.rows.now) args.owners.now (sym c.in_ok-hear_refusal.ensures)).is_rack)

pub take_row-requires : goal.take_row-requires
unfolding number_of
take_row-requires c =
    let args = c.args in
    let served = shared_served_of args.self args.rack (length args.rows.now) args.owners.now (sym c.in_ok-hear_refusal.ensures) in
    record {
      in_bounds = served.room;
      in_bounds_2 = (owners_fit_of args.owners.now served.marks).0;
      count_value = served.counts;
    }

pub returns : goal.returns
unfolding number_of
returns c =
    let args = c.args in
    hears_shared_served args.self args.rack args.kind args.bytes.now args.rows.now args.owners.now _ _ _ _
    c.in_ok-hear_refusal.ensures c.judge-slot.ensures c.take_row.ensures
