-- `player::script::two_pairs` is safe: so many digits make no more than fits. Assumes nothing.
use Rattle.std.proofs.Common.{◌<◌, arith}
use Rattle.digits.specs.Digits.{number_at}
use Rattle.digits.proofs.Digits.{number_below}
use Rattle.player.proofs.script.two_pairs.Goals as goal

pub overflow_cast-result : goal.overflow_cast-result
overflow_cast-result c =
    let args = c.args in
    let below : number_at args.line.now args.at 4 < 65536 = number_below args.line.now args.at 4 in
    omega (arith, c.number.ensures, below)
