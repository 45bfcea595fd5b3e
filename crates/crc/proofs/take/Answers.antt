-- `crc::take` meets its contract: eight bits leave at once, by the entry of the low byte. Assumes nothing.
use native.Mathlib.Nat.{add-sub_cancel_left}
use Rattle.crc.specs.Table.{taken_by_table}
use Rattle.crc.proofs.Entries.{taken_by_table_lem}
use Rattle.crc.proofs.take.Goals as goal

pub returns : goal.returns
unfolding taken_by_table
returns c = rw (c.from-low.ensures, c.entry.ensures, add-sub_cancel_left, c.from.ensures) (taken_by_table_lem _ _)
