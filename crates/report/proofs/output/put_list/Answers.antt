-- `report::output::put_list` meets its contract. The loop's invariant: the lines of the first UIDs stand there, 17 bytes each. Assumes nothing.
use native.Mathlib.Omega.{arith}
use lib.ListN.{get_or}
use lib.Seq.{take_all}
use Rattle.digits.proofs.Digits.{length_hex_digits}
use Rattle.digits.proofs.Put.{put_can, put_at}
use Rattle.report.proofs.Printed.{lines_puts_none, lines_puts_more}
use Rattle.report.proofs.output.put_list.Goals as goal

pub loop-uid-init : goal.loop-uid-init
loop-uid-init c = (omega arith, lines_puts_none _ c.args.uids.now _)

pub unwrap-end-requires : goal.unwrap-end-requires
unwrap-end-requires c = put_can _ c.put_digits.ensures (rw length_hex_digits (omega arith))

pub overflow_add-next : goal.overflow_add-next
overflow_add-next c =
    let put = put_at _ _ c.put_digits.ensures (rw length_hex_digits (omega arith)) c.unwrap-end.ensures in
    omega (arith, put.next, length_hex_digits 16 (get_or c.args.uids.now c.loop-uid.uid-index 0), c.put_digits.auto.text)

pub bounds-out-end : goal.bounds-out-end
bounds-out-end c =
    let put = put_at _ _ c.put_digits.ensures (rw length_hex_digits (omega arith)) c.unwrap-end.ensures in
    omega (arith, put.next, length_hex_digits 16 (get_or c.args.uids.now c.loop-uid.uid-index 0), c.put_digits.auto.text)

pub loop-uid-preserved : goal.loop-uid-preserved
loop-uid-preserved c =
    let loop = c.loop-uid in
    let uids = c.args.uids.now in
    let put = put_at _ _ c.put_digits.ensures (rw length_hex_digits (omega arith)) c.unwrap-end.ensures in
    let digits = length_hex_digits 16 (get_or uids loop.uid-index 0) in (
      omega (arith, put.next, digits),
      lines_puts_more uids loop.uid-index loop.invariant.0 loop.invariant.1 put (omega arith) (omega arith) (omega arith),
    )

pub returns : goal.returns
returns c =
    let loop = c.loop-uid in
    let all = take_all loop.uid-index c.args.uids.now (omega arith) in
    rw all at loop.invariant.1
