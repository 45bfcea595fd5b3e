-- `walk::Walk::hear` meets its contract: refused, or the slot judged and taken (HearWays.antt). Assumes nothing.
use mathlib.Core.Path.{sym}
use lib.ListN.{length}
use Rattle.std.proofs.lemmas.Result.{err_from_is_err_and}
use Rattle.refusals.specs.Number.{number_of}
use Rattle.walk.proofs.HearWays.{own_within, after_own, served_of_refusal, hears_refused, hears_served}
use Rattle.walk.proofs.Walk.hear.Goals as goal

pub returns-in_err-refusal : goal.returns-in_err-refusal
unfolding number_of
returns-in_err-refusal c =
    let args = c.args in
    let p = err_from_is_err_and c.from_residual.result c.from_residual.ensures.1 in
    rw (p.1, p.2) (hears_refused args.self args.kind args.bytes.now args.list.now _ c.in_err-refusal.ensures)

pub invariant_of-accepted : goal.invariant_of-accepted
unfolding number_of
invariant_of-accepted c = record { fits = (served_of_refusal c.args.self (length c.args.list.now) (sym c.in_ok-refusal.ensures)).accepted }

pub take-requires : goal.take-requires
unfolding number_of
take-requires c =
    let args = c.args in
    let served = served_of_refusal args.self (length args.list.now) (sym c.in_ok-refusal.ensures) in
    own_within args.self _ _ served.list (rw c.from.ensures at c.then_some-place.ensures)

pub returns : goal.returns
unfolding number_of
returns c =
    let args = c.args in
    hears_served args.self args.kind args.bytes.now args.list.now _ _ _ c.in_ok-refusal.ensures c.judge-slot.ensures
    (after_own args.self _ _ _ _ _ (rw c.from.ensures at c.then_some-place.ensures) c.take.ensures)
