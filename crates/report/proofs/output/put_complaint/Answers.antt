-- `report::output::put_complaint` meets its contract: the words and the number, placed one after the other. Assumes nothing.
use native.Mathlib.Omega.{arith}
use Rattle.lent.proofs.Puts.{puts_then, puts_start}
use Rattle.digits.proofs.Put.{put_can, put_at}
use Rattle.report.specs.Output.{complaint}
use Rattle.report.proofs.output.put_complaint.Goals as goal

pub unwrap-requires : goal.unwrap-requires
unwrap-requires c = put_can _ c.put_bytes.ensures (omega (arith, c.put_named-at.ensures.upper_bound))

pub returns : goal.returns
unfolding complaint
returns c =
    let named = c.put_named-at.ensures in
    let line-end = put_at _ _ c.put_bytes.ensures (omega (arith, named.upper_bound)) c.unwrap.ensures in
    puts_start (puts_then named.puts_at line-end (omega (arith, named.upper_bound)))
