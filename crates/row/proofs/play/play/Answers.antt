-- `row::play::play` meets its contract: a slot more is played, until the walk ends or all its slots are heard (Played.antt). Assumes nothing.
use borrow.Author.Rules.{rules}
use mathlib.Core.Path.{◌≡◌, sym, subst, ◌∙◌}
use Prim.Native.Nat.{◌+◌}
use lib.ListN.{length, take}
use Rattle.walk.specs.Marks.{levels}
use Rattle.walk.specs.Record.{most_rounds, most_slots}
use Rattle.row.specs.declared.Desk.{Desk}
use Rattle.row.proofs.AtMost.{take_most, take_kept}
use Rattle.row.proofs.Played.{Playing, playing_none, end_of_dealt, playing_slot, playing_over, still_few, all_played}
use Rattle.row.proofs.play.play.Goals as goal

pub loop-slot-init : goal.loop-slot-init
loop-slot-init c =
    let n = c.args.n in
    let row = c.deal-row.result in
    let desk = c.fresh-desk.result in
    subst (λ (end : Desk). Playing end 0 desk (take n row))
    (end_of_dealt c.args.uids n desk row c.fresh-desk.ensures c.deal-row.ensures) (playing_none desk (take n row))

pub loop-slot-preserved : goal.loop-slot-preserved
loop-slot-preserved c =
    let n = c.args.n in
    let loop = c.loop-slot in
    let heard = c.listen_row-air in
    let long : length loop.row ≡ 100 = search rules in
    let few = still_few loop.desk loop.slot (sym c.goes_on.ensures ∙ c.if-not-goes_on.false) in
    let first = take_most 100 n _ loop.row long c.min-cards.ensures in
    subst (Playing _ (loop.slot + 1) c.hear-desk.result) (sym (take_kept 100 n _ heard.new.row loop.row long c.min-cards.ensures heard.auto.row))
    (playing_slot _ loop.slot loop.desk _ heard.result (take n loop.row) heard.new.row loop.invariant few
    (rw first at heard.ensures.air) (rw first at heard.ensures.row_left) c.hear-desk.ensures)

pub returns-after-loop-slot : goal.returns-after-loop-slot
unfolding most_slots most_rounds levels
returns-after-loop-slot c =
    playing_over _ c.loop-slot.slot c.loop-slot.desk _ c.loop-slot.invariant (all_played c.loop-slot.desk c.loop-slot.slot c.loop-slot-test.false)

pub returns-then-not-goes_on : goal.returns-then-not-goes_on
returns-then-not-goes_on c = playing_over _ c.loop-slot.slot c.loop-slot.desk _ c.loop-slot.invariant (sym c.goes_on.ensures ∙ c.if-not-goes_on.true)
