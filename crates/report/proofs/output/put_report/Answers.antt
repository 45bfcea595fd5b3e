-- `report::output::put_report` meets its contract: the list after the heading (Printed.antt). Assumes nothing.
use native.Mathlib.Omega.{arith}
use Prim.Native.Nat.{◌≤◌}
use lib.ListN.{length, take, length-take}
use Rattle.walk.proofs.Limits.{accepted_of_is_accepted}
use Rattle.digits.proofs.Put.{put_can, put_at}
use Rattle.report.proofs.Printed.{lines_most, puts_report}
use Rattle.report.proofs.output.put_report.Goals as goal

pub unwrap-next-requires : goal.unwrap-next-requires
unwrap-next-requires c = put_can _ c.put_bytes.ensures (omega (arith, c.put_heading-at.ensures.upper_bound))

pub shared_ref_as_front-put_list : goal.shared_ref_as_front-put_list
shared_ref_as_front-put_list c = omega (arith, c.from.ensures, (accepted_of_is_accepted _ c.requires.walk_value).count)

pub put_list-requires : goal.put_list-requires
put_list-requires c =
    let count = (accepted_of_is_accepted _ c.requires.walk_value).count in
    let heading = c.put_heading-at.ensures in
    let line-end = put_at _ _ c.put_bytes.ensures (omega (arith, heading.upper_bound)) c.unwrap-next.ensures in
    let few : length (take c.from.result c.args.desk.now.list) ≤ c.from.result = rw length-take (omega arith) in
    omega (arith, c.from.ensures, count, heading.upper_bound, line-end.next, few)

pub returns : goal.returns
returns c =
    let desk = c.args.desk.now in
    let count = (accepted_of_is_accepted _ c.requires.walk_value).count in
    let heading = c.put_heading-at.ensures in
    let line-end = put_at _ _ c.put_bytes.ensures (omega (arith, heading.upper_bound)) c.unwrap-next.ensures in
    let list = rw c.from.ensures at c.put_list.ensures in
    let few = lines_most desk.walk.count desk.list in
    puts_report desk heading.puts_at line-end list (omega (arith, c.requires.in_bounds, few, count, heading.upper_bound, line-end.next, list.next))
