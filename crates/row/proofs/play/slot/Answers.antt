-- `row::play::slot` meets its contract: the first m cards are lent and hear the slot, the rest of the row stays (SlotMade.antt). Assumes nothing.
use borrow.Author.Rules.{rules}
use mathlib.Core.Path.{◌≡◌}
use lib.ListN.{length}
use Rattle.row.proofs.SlotMade.{slot_made}
use Rattle.row.proofs.play.slot.Goals as goal

pub returns : goal.returns
returns c =
    let args = c.args in
    let long : length args.row ≡ 100 = search rules in
    slot_made args.row c.listen_row-air.new.row args.n _ args.desk _ _ long c.min.ensures c.listen_row-air.ensures c.hear.ensures
