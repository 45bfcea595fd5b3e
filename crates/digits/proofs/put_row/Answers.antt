-- `digits::put_row` meets its contract. The loop's invariant: the row of the bytes that are left, placed here, comes to the whole. Assumes nothing.
use native.Mathlib.Omega.{arith}
use Prim.Native.Nat.{◌+◌, ◌-◌, ◌*◌, ◌≤◌}
use mathlib.Core.Path.{refl, sym, ap, ◌∙◌}
use lib.ListN.{length}
use Rattle.std.proofs.lemmas.Result.{err_from_is_err_and}
use Rattle.digits.proofs.Rows.{length_row_text, put_more, put_end}
use Rattle.digits.proofs.Put.{put_refused, put_served, part_placed}
use Rattle.digits.proofs.put_row.Goals as goal

pub returns-in_err-count : goal.returns-in_err-count
returns-in_err-count c =
    let p = err_from_is_err_and c.from_residual.result c.from_residual.ensures.1 in
    let many = c.in_err-count.ensures in
    put_refused _ _ _ _ _ (length_row_text _) (cc (p.1, p.2, many.value))
    (omega (arith, rw many.ok_part at c.checked_mul.ensures))

pub returns-in_err-end : goal.returns-in_err-end
returns-in_err-end c =
    let p = err_from_is_err_and c.from_residual-in_err-end.result c.from_residual-in_err-end.ensures.1 in
    let short = c.in_err-end.ensures in
    let three = rw c.in_ok-count.ensures.ok_part at c.checked_mul.ensures in
    put_refused _ _ _ _ _ (length_row_text _) (cc (p.1, p.2, short.0)) (omega (arith, short.1, three.1))

pub loop-b-init : goal.loop-b-init
loop-b-init c = (omega arith, refl)

pub loop-b-preserved : goal.loop-b-preserved
loop-b-preserved c =
    let loop = c.loop-b in
    let bytes = c.args.bytes.now in
    let pair = c.copy_from_slice.ensures in
    let part = part_placed c.copy_from_slice.new.self loop.text loop.next (loop.next + 3 - loop.next) (omega (arith, pair.len, ap length pair.after)) in
    let three = rw c.in_ok-count.ensures.ok_part at c.checked_mul.ensures in
    let room : loop.next + 3 * (length bytes - loop.b-index) ≤ length loop.text = omega (arith, c.in_ok-end.ensures.0, c.in_ok-end.ensures.1, three.1) in
    let more = put_more bytes loop.text loop.b-index loop.next (omega arith) room in
    (omega arith, rw (part, pair.after, c.digit.ensures, c.from.ensures, c.digit-in-loop-b.ensures, c.from-in-loop-b.ensures) more ∙ loop.invariant.1)

pub returns : goal.returns
returns c =
    let loop = c.loop-b in
    let here = c.in_ok-end.ensures in
    let three = rw c.in_ok-count.ensures.ok_part at c.checked_mul.ensures in
    put_served _ _ _ _ _ _ (length_row_text _) (omega (arith, here.0, three.1)) here.1 (sym (put_end c.args.bytes.now loop.text loop.b-index loop.next (omega arith)) ∙ loop.invariant.1)
