-- `walk::AcceptedWalk::put_body` meets its contract: head and mask, one after another (Requests.antt). The numbers are small: a head of three bytes
-- and a mask of eight at the most. Assumes nothing.
use borrow.Author.Rules.{rules}
use native.Mathlib.Omega.{arith}
use Rattle.walk.proofs.Limits.{level_few}
use Rattle.walk.proofs.Requests.{length_puts, length_head_most, mask_bytes_most, puts_body}
use Rattle.walk.proofs.AcceptedWalk.put_body.Goals as goal

pub bounds-room-at : goal.bounds-room-at
bounds-room-at c =
    let w = c.args.self.walk in
    let head = c.put_head-at.ensures in
    let short = length_head_most w in
    omega (arith, head.count, short, length_puts head (omega arith))

pub overflow_add-at : goal.overflow_add-at
overflow_add-at c = omega (arith, c.put_head-at.ensures.count, length_head_most c.args.self.walk)

pub overflow_add-result : goal.overflow_add-result
overflow_add-result c = omega (arith, c.put_head-at.ensures.count, length_head_most c.args.self.walk)

pub overflow_add-result-2 : goal.overflow_add-result-2
overflow_add-result-2 c =
    let start = c in
    let w = start.args.self.walk in
    let few = mask_bytes_most w.level (level_few start.args.self.walk (search rules) start.args.self.fits) in
    omega (arith, c.put_head-at.ensures.count, length_head_most w, c.mask_bytes-bytes.ensures, few)

pub returns : goal.returns
returns c =
    let start = c in
    puts_body start.args.self.walk start.args.room.now c.put_head-at.ensures c.mask_bytes-bytes.ensures
    (rw c.mask.ensures at c.put_field.ensures) (level_few start.args.self.walk (search rules) start.args.self.fits) start.requires
