-- `picture::picture::picture` meets its contract: refused, a wrong line, or drawn and printed, each by its own law (Ways.antt). Assumes nothing.
use native.Mathlib.Omega.{arith}
use Prim.Native.Nat.{◌≤◌}
use lib.ListN.{length, take}
use Rattle.picture.proofs.Ways.{pictures_short, pictures_wrong, pictures_drawn}
use Rattle.picture.proofs.Printed.{printed_ok, printed_room, printed_at}
use Rattle.picture.proofs.Most.{drawn_most}
use Rattle.picture.proofs.picture.picture.Goals as goal

pub returns-then-out-lt-MOST_PICTURED : goal.returns-then-out-lt-MOST_PICTURED
returns-then-out-lt-MOST_PICTURED c = pictures_short _ _ (omega arith)

pub returns-then-lines-ne0 : goal.returns-then-lines-ne0
returns-then-lines-ne0 c =
    pictures_wrong _ _ _ c.read-lines.result _ c.read-lines.ensures c.if-lines-ne0.true (omega arith) c.bench.ensures

pub slice_bounds-bench-count : goal.slice_bounds-bench-count
slice_bounds-bench-count c =
    let most = drawn_most (take c.read-lines.result.count c.read-lines.result.uids) in
    omega (arith, most, c.draw-at.ensures.count)

pub slice_bounds-bench-start : goal.slice_bounds-bench-start
slice_bounds-bench-start c =
    let most = drawn_most (take c.read-lines.result.count c.read-lines.result.uids) in
    let room : c.draw-at.result ≤ length c.draw-at.new.out = omega (arith, most, c.draw-at.ensures.count) in
    room

pub returns-in_err-printed : goal.returns-in_err-printed
returns-in_err-printed c =
    let most = drawn_most (take c.read-lines.result.count c.read-lines.result.uids) in
    let room = printed_room c.draw-at.result c.draw-at.new.out (omega (arith, most, c.draw-at.ensures.count)) (omega arith) in
    cc (printed_ok c.bench-2.result c.bench-2.ensures room, c.in_err-printed.was)

pub overflow_add-result : goal.overflow_add-result
overflow_add-result c =
    let most = drawn_most (take c.read-lines.result.count c.read-lines.result.uids) in
    let put =
    printed_at c.draw-at.result c.in_ok-printed.printed _ c.draw-at.new.out _ c.bench-2.result (omega (arith, most, c.draw-at.ensures.count)) (omega arith)
    c.bench-2.ensures c.bench-2.auto.out c.in_ok-printed.was in
    omega (arith, put.within)

pub returns : goal.returns
returns c =
    let read = c.read-lines in
    let draw = c.draw-at in
    let most = drawn_most (take read.result.count read.result.uids) in
    let put =
    printed_at draw.result c.in_ok-printed.printed _ draw.new.out _ c.bench-2.result (omega (arith, most, draw.ensures.count)) (omega arith)
    c.bench-2.ensures c.bench-2.auto.out c.in_ok-printed.was in
    pictures_drawn _ _ _ _ read.result draw.result _ read.ensures (omega arith) (omega arith) draw.ensures put.count put.leaves
