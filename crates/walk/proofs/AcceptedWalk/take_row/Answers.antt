-- `walk::AcceptedWalk::take_row` meets its contract: the slot taken at the row that the definition says (SharedWays.antt). Assumes nothing.
use borrow.Author.Rules.{rules}
use Rattle.walk.proofs.OwnersSteps.{row_told_by}
use Rattle.walk.proofs.SharedWays.{after_row, row_within, row_in_bounds}
use Rattle.walk.proofs.AcceptedWalk.take_row.Goals as goal

pub own-requires : goal.own-requires
own-requires c =
    row_in_bounds c.args.self.walk c.args.slot _ _ c.requires.in_bounds_2 (row_told_by _ _ _ _ _ c.requires.in_bounds_2 c.first_chunk.ensures.cases (search rules))

pub take-requires : goal.take-requires
take-requires c =
    row_within c.args.self.walk c.args.slot _ c.args.owners.now _ c.requires.in_bounds
    (row_told_by _ _ _ _ _ c.requires.in_bounds_2 c.first_chunk.ensures.cases (search rules))

pub returns : goal.returns
returns c =
    let start = c in
    after_row _ _ _ _ _ _ _ _ _ start.requires.in_bounds_2 start.requires.count_value
    (row_told_by _ _ _ _ _ c.requires.in_bounds_2 c.first_chunk.ensures.cases (search rules)) c.take.ensures c.own.ensures
