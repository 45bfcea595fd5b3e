-- `state_bytes` meets its contract: byte by byte (Putting.antt). Assumes nothing.
use Rattle.record.proofs.Putting.{state_made}
use Rattle.record.proofs.bytes.state_bytes.Goals as goal

pub returns : goal.returns
returns c = state_made c.args.card c.requires c.from.ensures c.from-2.ensures c.mode_byte.ensures c.held_byte.ensures
