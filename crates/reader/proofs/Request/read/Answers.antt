-- `reader::Request::read` meets its contract: refused, an error, or what the part shows (Served.antt). Assumes nothing.
use Rattle.std.proofs.lemmas.Result.{err_from_is_err_and}
use Rattle.refusals.specs.Number.{number_of}
use Rattle.reader.proofs.Served.{part_cut, part_earned, reads_refused, reads_error, reads_shown}
use Rattle.reader.proofs.Request.read.Goals as goal

pub returns-in_err-may_be_read : goal.returns-in_err-may_be_read
unfolding number_of
returns-in_err-may_be_read c =
    let args = c.args in
    let p = err_from_is_err_and c.from_residual.result c.from_residual.ensures.1 in
    rw (p.1, p.2) (reads_refused args.self args.answer.now args.blocks.now args.locks.now c.in_err-may_be_read.field-0.0 c.in_err-may_be_read.ensures.number)

pub returns-then-answer-ne0 : goal.returns-then-answer-ne0
unfolding number_of
returns-then-answer-ne0 c =
    let args = c.args in
    reads_error args.self args.answer.now args.blocks.now args.locks.now c.in_ok-may_be_read.ensures.number c.if-answer-ne0.true

pub hand_over-requires-clause-part_len : goal.hand_over-requires-clause-part_len
unfolding number_of
hand_over-requires-clause-part_len c =
    let args = c.args in
    part_earned args.self args.answer.now args.blocks.now args.locks.now c.in_ok-may_be_read.ensures.number c.if-answer-ne0.false (part_cut args.answer.now)

pub returns : goal.returns
unfolding number_of
returns c =
    let args = c.args in
    reads_shown args.self args.answer.now args.blocks.now args.locks.now c.in_ok-may_be_read.ensures.number c.if-answer-ne0.false (part_cut args.answer.now)
    c.hand_over.ensures
