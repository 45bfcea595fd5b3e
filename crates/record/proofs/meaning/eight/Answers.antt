-- `eight` meets its contract: its two fours joined (Fields.antt). Assumes nothing.
use native.Mathlib.Omega.{arith}
use Rattle.record.proofs.Fields.{eight_of_fours}
use Rattle.record.proofs.meaning.eight.Goals as goal

pub returns : goal.returns
returns c =
    let both = eight_of_fours c.args.bytes.now c.args.at in
    omega (arith, both, c.four-low.ensures, c.four-high.ensures, c.from.ensures, c.from-2.ensures)
