-- `tracks::decoder::join` meets its contract: the definition goes by the same four tests. Assumes nothing.
use Rattle.tracks.proofs.Reading.{byte_of_pairs, no_byte_of_pairs}
use Rattle.tracks.proofs.decoder.join.Goals as goal

pub returns-then-a-b : goal.returns-then-a-b
returns-then-a-b c = byte_of_pairs _ _ _ _ c.if-a-b.true

pub returns-else-a-b : goal.returns-else-a-b
returns-else-a-b c = no_byte_of_pairs _ _ _ _ c.if-a-b.false
