-- `player::script::pair` is safe: so many digits make no more than fits. Assumes nothing.
use Rattle.std.proofs.Common.{◌<◌, arith}
use Rattle.digits.specs.Digits.{number_at}
use Rattle.digits.proofs.Digits.{number_below}
use Rattle.player.proofs.script.pair.Goals as goal

pub overflow_cast-result : goal.overflow_cast-result
overflow_cast-result c =
    let args = c.args in
    let below : number_at args.line.now args.at 2 < 256 = number_below args.line.now args.at 2 in
    omega (arith, c.number.ensures, below)
