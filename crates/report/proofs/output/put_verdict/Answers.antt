-- `report::output::put_verdict` meets its contract: the name and the word, placed one after the other. Assumes nothing.
use native.Mathlib.Omega.{arith}
use Prim.Native.Nat.{◌≤◌}
use lib.ListN.{length}
use Rattle.lent.proofs.Puts.{puts_then}
use Rattle.digits.proofs.Put.{put_can, put_at}
use Rattle.report.specs.Output.{verdict_line}
use Rattle.report.proofs.Lengths.{length_word}
use Rattle.report.proofs.output.put_verdict.Goals as goal

pub unwrap-next-requires : goal.unwrap-next-requires
unwrap-next-requires c = put_can _ c.put_bytes.ensures (omega arith)

pub unwrap-requires : goal.unwrap-requires
unwrap-requires c =
    let name = put_at _ _ c.put_bytes.ensures (omega arith) c.unwrap-next.ensures in
    let short : length c.word.result.now ≤ 8 = rw c.word.ensures (length_word c.args.ending) in
    put_can _ c.put_bytes-2.ensures (omega (arith, name.next))

pub returns : goal.returns
unfolding verdict_line
returns c =
    let name = put_at _ _ c.put_bytes.ensures (omega arith) c.unwrap-next.ensures in
    let short : length c.word.result.now ≤ 8 = rw c.word.ensures (length_word c.args.ending) in
    let puts = puts_then name (put_at _ _ c.put_bytes-2.ensures (omega (arith, name.next)) c.unwrap.ensures) (omega (arith, name.next)) in
    record { puts_at = rw (← c.word.ensures) puts; upper_bound = omega (arith, puts.next) }
