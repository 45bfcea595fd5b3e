-- `reader::Request::make` meets its contract: refused, or head, body and check, one after another (MakeWays.antt, Making.antt). Assumes nothing.
use native.Mathlib.Omega.{arith}
use Rattle.std.proofs.lemmas.Result.{err_from_is_err_and}
use Rattle.refusals.specs.Number.{number_of, number_back}
use Rattle.reader.proofs.MakeWays.{makes_refused}
use Rattle.reader.proofs.Making.{length_head_most, makes_served}
use Rattle.reader.proofs.Request.make.Goals as goal

pub returns-in_err-may_be_made : goal.returns-in_err-may_be_made
unfolding number_of number_back
returns-in_err-may_be_made c =
    let p = err_from_is_err_and c.from_residual.result c.from_residual.ensures.1 in
    rw (p.1, p.2) (makes_refused c.args.self c.args.written.now c.args.room.now c.in_err-may_be_made.field-0.0 c.in_err-may_be_made.ensures.number)

pub put_body-n-requires-clause-at_in_bounds : goal.put_body-n-requires-clause-at_in_bounds
put_body-n-requires-clause-at_in_bounds c =
    let head = c.put_head-at in
    omega (arith, c.in_ok-may_be_made.ensures.passes.enough, head.ensures.count, length_head_most c.args.self, head.auto.room)

pub returns : goal.returns
returns c =
    makes_served c.args.self c.args.written.now c.args.room.now c.put_head-at.ensures c.put_body-n.ensures c.seal.ensures c.in_ok-may_be_made.ensures.passes
