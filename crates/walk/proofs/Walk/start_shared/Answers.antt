-- `walk::Walk::start_shared` meets its contract: refused, or the rack's rows freed and a fresh walk (SharedWays.antt). Assumes nothing.
use mathlib.Core.Path.{sym}
use native.Mathlib.Omega.{arith}
use Rattle.std.proofs.lemmas.Result.{err_from_is_err_and}
use Rattle.refusals.specs.Number.{number_of}
use Rattle.walk.proofs.Owners.{owners_fit_of}
use Rattle.walk.proofs.SharedWays.{start_served_of, starts_served, starts_refused}
use Rattle.walk.proofs.Walk.start_shared.Goals as goal

pub returns-in_err-start_refusal : goal.returns-in_err-start_refusal
unfolding number_of
returns-in_err-start_refusal c =
    let args = c.args in
    let p = err_from_is_err_and c.from_residual.result c.from_residual.ensures.1 in
    rw (p.1, p.2) (starts_refused args.self args.rack args.family args.owners.now _ c.in_err-start_refusal.ensures)

pub overflow_cast-rack : goal.overflow_cast-rack
unfolding number_of
overflow_cast-rack c = omega (arith, (start_served_of c.args.rack c.args.owners.now (sym c.in_ok-start_refusal.ensures)).is_rack)

pub free_rows-requires : goal.free_rows-requires
unfolding number_of
free_rows-requires c =
    let owners = c.args.owners.now in
    (owners_fit_of owners (start_served_of c.args.rack owners (sym c.in_ok-start_refusal.ensures)).marks).0

pub returns : goal.returns
unfolding number_of
returns c =
    let args = c.args in
    starts_served args.self args.rack args.family args.owners.now _ _ c.in_ok-start_refusal.ensures c.start.ensures
    c.free_rows.ensures
