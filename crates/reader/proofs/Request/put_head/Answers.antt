-- `reader::Request::put_head` meets its contract: two stores, and the UID where it is addressed (Making.antt). Assumes nothing.
use native.Mathlib.Omega.{arith}
use lib.ListN.{length-set}
use Rattle.frames.proofs.Ways.{puts_field_ok}
use Rattle.reader.proofs.Making.{puts_addressed, puts_unaddressed}
use Rattle.reader.proofs.Request.put_head.Goals as goal

pub unwrap-requires : goal.unwrap-requires
unwrap-requires c = puts_field_ok c.put_field.result c.put_field.ensures (simp length-set (omega arith))

pub returns-then-self-eq1 : goal.returns-then-self-eq1
returns-then-self-eq1 c = puts_addressed c.args.self c.args.room.now c.flags.ensures c.if-self-eq1.true c.unwrap.ensures c.put_field.ensures c.requires

pub returns-else-self-eq1 : goal.returns-else-self-eq1
returns-else-self-eq1 c = puts_unaddressed c.args.self c.args.room.now c.flags.ensures c.if-self-eq1.false c.requires
