-- `picture::drawing::draw` meets its contract. The loop's invariant: what is drawn so far and what is left to draw are the whole (Slots.antt).
-- The measure is how many slots are left. Assumes nothing.
use mathlib.Core.Path.{refl, sym, subst, ◌∙◌}
use native.Mathlib.Omega.{arith}
use Rattle.row.proofs.Played.{slots_fit, still_few}
use Rattle.digits.proofs.Put.{put_can, put_at}
use Rattle.picture.specs.Drawn.{heading}
use Rattle.picture.proofs.Lengths.{length_twins}
use Rattle.picture.proofs.Slots.{drawing_none, drawing_room, drawing_more, drawing_over, dealt_most, drawn_puts}
use Rattle.picture.proofs.Moves.{Fit, fresh_fit}
use Rattle.picture.proofs.drawing.draw.Goals as goal

pub unwrap-at-requires : goal.unwrap-at-requires
unwrap-at-requires c = put_can _ c.put_bytes.ensures (omega arith)

pub loop-row-init : goal.loop-row-init
loop-row-init c =
    let args = c.args in
    let put = put_at _ _ c.put_bytes.ensures (omega arith) c.unwrap-at.ensures in
    let deal = c.deal-row in
    let most = dealt_most _ args.n c.fresh-desk.ensures deal.ensures in
    (refl, drawing_none _ _ _ _ (subst Fit (sym c.fresh-desk.ensures) fresh_fit) most (omega (arith, put.next)))

pub put_slot-at-requires : goal.put_slot-at-requires
put_slot-at-requires c =
    let put = put_at _ _ c.put_bytes.ensures (omega arith) c.unwrap-at.ensures in
    let loop = c.loop-row in
    record {
      walk_value = loop.invariant.1.fit.accepted;
      at_in_bounds = omega (arith, drawing_room loop.invariant.1, loop.invariant.1.room, put.next);
    }

pub overflow_add-count : goal.overflow_add-count
overflow_add-count c =
    let goes_on = c.goes_on in
    let if1 = c.loop-row-test in
    omega (arith, slots_fit, still_few _ _ (sym goes_on.ensures ∙ if1.true))

pub loop-row-smaller : goal.loop-row-smaller
loop-row-smaller c =
    let goes_on = c.goes_on in
    let if1 = c.loop-row-test in
    omega (arith, still_few _ _ (sym goes_on.ensures ∙ if1.true))

pub loop-row-preserved : goal.loop-row-preserved
loop-row-preserved c =
    let args = c.args in
    let loop = c.loop-row in
    let goes_on = c.goes_on in
    let if1 = c.loop-row-test in
    let slot = c.slot-next in
    let put-slot = c.put_slot-at in
    (omega arith, drawing_more args.n loop.row slot.result loop.invariant.1 (sym goes_on.ensures ∙ if1.true) slot.ensures put-slot.ensures)

pub put_twins-requires : goal.put_twins-requires
put_twins-requires c =
    let put = put_at _ _ c.put_bytes.ensures (omega arith) c.unwrap-at.ensures in
    let loop = c.loop-row in
    record {
      walk_value = loop.invariant.1.fit.accepted;
      at_in_bounds = omega (arith, drawing_room loop.invariant.1, loop.invariant.1.room, put.next);
    }

pub returns : goal.returns
unfolding heading
returns c =
    let args = c.args in
    let pre = c.requires in
    let put = put_at _ _ c.put_bytes.ensures (omega arith) c.unwrap-at.ensures in
    let deal = c.deal-row in
    let fresh = c.fresh-desk in
    let loop = c.loop-row in
    let goes_on = c.goes_on in
    let if1 = c.loop-row-test in
    let put-twins = c.put_twins in
    let over = drawing_over loop.invariant.1 (sym goes_on.ensures ∙ if1.false) in
    drawn_puts args.uids args.n fresh.ensures deal.ensures put over put-twins.ensures
    (omega (arith, drawing_room loop.invariant.1, put.next, put-twins.ensures.next, length_twins loop.desk, pre))
