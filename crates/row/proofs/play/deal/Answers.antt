-- `row::play::deal` meets its contract. The loop's invariant: the first i cards are those of the first i UIDs.
-- Assumes nothing.
use borrow.Author.Rules.{rules}
use native.Mathlib.Omega.{arith}
use mathlib.Core.Path.{◌≡◌, refl, ◌∙◌}
use lib.ListN.{length, length-set}
use Rattle.row.proofs.Dealt.{dealt_more, dealt_all}
use Rattle.row.specs.Row.{cards_of}
use Rattle.row.proofs.play.deal.Goals as goal

pub loop-i-init : goal.loop-i-init
unfolding cards_of
loop-i-init c = (refl, refl)

pub loop-i-preserved : goal.loop-i-preserved
loop-i-preserved c =
    let loop = c.loop-i in
    let uids = c.args.uids in
    let all : length uids ≡ 100 = search rules in
    let long = loop.invariant.0 in
    (length-set loop.card-items loop.i _ ∙ long, dealt_more uids loop.card-items loop.i (omega (arith, all, long)) (omega (arith, long)) loop.invariant.1 c.card_of.ensures)

pub returns : goal.returns
returns c =
    let loop = c.loop-i in
    let uids = c.args.uids in
    let all : length uids ≡ 100 = search rules in
    dealt_all uids loop.card-items loop.i (omega (arith, all, loop.invariant.0)) (omega (arith, loop.invariant.0)) loop.invariant.1
