-- `row::row::listen_row` meets its contract. The loop's invariant: what the rest of the row adds is what the whole row adds (RowPart.antt).
-- Assumes nothing.
use Rattle.row.proofs.RowPart.{Partly}
use Rattle.row.proofs.row.listen_row.Given as goal

abbrev pub invariant-loop-card : goal.invariant-loop-card
invariant-loop-card l = Partly l.fn.walk l.fn.row l.card-index l.row l.air
