-- `player::told::Text::put` meets its contract: as many bytes as there is room for, by the promise of digits' `put_bytes` (Adding.antt). Assumes nothing.
use Rattle.std.proofs.Common.{arith}
use Rattle.player.proofs.Adding.{adds_put}
use Rattle.player.proofs.told.Text.put.Goals as goal

pub returns : goal.returns
returns c =
    let text = c.args.self.now in
    adds_put text.at c.args.bytes.now text.bytes _ c.min-count.result (omega arith) c.put_bytes.ensures
