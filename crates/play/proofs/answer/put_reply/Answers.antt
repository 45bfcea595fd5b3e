-- `play::answer::put_reply` meets its contract, by the reply: what it asks of each function follows from the room and from a reply
-- that fits. Assumes nothing.
use native.Mathlib.Omega.{arith}
use lib.ListN.{length}
use Rattle.play.proofs.Room.{room_of, blocks_room, status_room, reply_put}
use Rattle.play.specs.Answer.{reply_bytes}
use Rattle.play.proofs.Brief.{brief_bytes, is_brief_lem}
use Rattle.play.proofs.answer.put_reply.Goals as goal

pub put_blocks-requires-clause-option_in_bounds : goal.put_blocks-requires-clause-option_in_bounds
put_blocks-requires-clause-option_in_bounds c =
    let asked = c.requires in
    omega (arith, blocks_room c.args.card (length c.args.answer.now) c.in-Blocks.is asked.reply_value asked.ready.fits)

pub put_locks-requires-clause-n_in_bounds_2 : goal.put_locks-requires-clause-n_in_bounds_2
put_locks-requires-clause-n_in_bounds_2 c =
    let asked = c.requires in
    omega (arith, status_room c.args.card (length c.args.answer.now) c.in-Status.is asked.reply_value asked.ready.fits)

pub put_brief-requires : goal.put_brief-requires
put_brief-requires c =
    let args = c.args in
    let asked = c.requires in
    record {
      reply_value = is_brief_lem args.reply c.in_default.not-Blocks c.in_default.not-Status c.in_default.not-Information;
      in_bounds = omega (arith, (room_of args.card (length args.answer.now) asked.ready.fits).least);
    }

pub returns-in-Blocks : goal.returns-in-Blocks
unfolding reply_bytes
returns-in-Blocks c =
    let args = c.args in
    let asked = c.requires in
    reply_put args.card args.memory.now args.locks.now args.answer.now args.reply asked.ready asked.reply_value
    (rw c.in-Blocks.is c.put_blocks.ensures)

pub returns-in-Status : goal.returns-in-Status
unfolding reply_bytes
returns-in-Status c =
    let args = c.args in
    let asked = c.requires in
    reply_put args.card args.memory.now args.locks.now args.answer.now args.reply asked.ready asked.reply_value
    (rw c.in-Status.is c.put_locks.ensures)

pub returns-in-Information : goal.returns-in-Information
unfolding reply_bytes
returns-in-Information c =
    let args = c.args in
    let asked = c.requires in
    reply_put args.card args.memory.now args.locks.now args.answer.now args.reply asked.ready asked.reply_value
    (rw c.in-Information.is c.put_information.ensures)

pub returns-in_default : goal.returns-in_default
returns-in_default c =
    let args = c.args in
    let brief = is_brief_lem args.reply c.in_default.not-Blocks c.in_default.not-Status c.in_default.not-Information in
    rw (brief_bytes args.card args.memory.now args.locks.now args.reply brief) c.put_brief.ensures
