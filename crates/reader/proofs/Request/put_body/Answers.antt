-- `reader::Request::put_body` meets its contract: the data of 21, and what has no body (Making.antt). Assumes nothing.
use native.Mathlib.Omega.{arith}
use lib.ListN.{length, length-set}
use Rattle.lent.proofs.Puts.{puts_none}
use Rattle.reader.proofs.MakeWays.{written_most}
use Rattle.reader.proofs.Making.{puts_written, no_body}
use Rattle.reader.proofs.Request.put_body.Goals as goal

pub slice_bounds-copy_all-end : goal.slice_bounds-copy_all-end
slice_bounds-copy_all-end c =
    let few = written_most c.args.self (length c.args.written.now) c.requires.request_value c.requires.written_value c.in-33.is in
    rw length-set (omega (arith, few))

pub returns-in-33 : goal.returns-in-33
returns-in-33 c =
    let few = written_most c.args.self (length c.args.written.now) c.requires.request_value c.requires.written_value c.in-33.is in
    puts_written c.args.self c.args.written.now c.args.room.now c.args.at _ (omega (arith, few)) c.in-33.is (omega arith) c.copy_all.ensures.after

pub returns-in_default : goal.returns-in_default
returns-in_default c =
    rw (no_body c.args.self c.args.written.now (λ e. grind arith) (λ e. grind arith) (λ e. grind arith) (λ e. grind arith) (λ e. grind arith)
    (λ e. grind arith) (λ e. grind arith))
    (puts_none c.args.at c.args.room.now)
