-- `report::output::put_named` meets its contract: a name and a number, placed one after the other. Assumes nothing.
use native.Mathlib.Omega.{arith}
use Rattle.lent.proofs.Puts.{puts_then}
use Rattle.digits.proofs.Decimal.{length_decimal}
use Rattle.digits.proofs.Put.{put_can, put_at}
use Rattle.report.proofs.Printed.{named_end}
use Rattle.report.proofs.output.put_named.Goals as goal

pub unwrap-next-requires : goal.unwrap-next-requires
unwrap-next-requires c = put_can _ c.put_bytes.ensures (omega arith)

pub unwrap-requires : goal.unwrap-requires
unwrap-requires c =
    let name = put_at _ _ c.put_bytes.ensures (omega arith) c.unwrap-next.ensures in
    put_can _ c.put_decimal.ensures (omega (arith, name.next, length_decimal 2 c.args.n (omega arith)))

pub returns : goal.returns
returns c =
    let args = c.args in
    let few = length_decimal 2 args.n (omega arith) in
    let name = put_at _ _ c.put_bytes.ensures (omega arith) c.unwrap-next.ensures in
    let number = put_at _ _ c.put_decimal.ensures (omega (arith, name.next, few)) c.unwrap.ensures in
    let puts = puts_then name number (omega (arith, name.next)) in
    record { puts_at = puts; upper_bound = named_end args.name.now args.n (omega arith) puts }
