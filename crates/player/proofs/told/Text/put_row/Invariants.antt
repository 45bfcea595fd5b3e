-- `player::told::Text::put_row` meets its contract. The loop's invariant: the row of the bytes so far was added. Assumes nothing.
use Rattle.std.proofs.Common.{take}
use Rattle.digits.specs.Rows.{row_text}
use Rattle.player.specs.Text.{Grows}
use Rattle.player.proofs.told.Text.put_row.Given as goal

abbrev pub invariant-loop-b : goal.invariant-loop-b
invariant-loop-b l = Grows (row_text (take l.b-index l.bytes)) l.initial.self l.self
