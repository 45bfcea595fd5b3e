-- `walk::record::unit` meets its contract: a shift makes the power of two. Assumes nothing.
use mathlib.Core.Path.{◌∙◌}
use Prim.Native.Nat.{◌*◌}
use native.Mathlib.Omega.{arith}
use lib.Pow.{shl_exact}
use Rattle.walk.specs.Record.{mask_length}
use Rattle.walk.proofs.Limits.{unit_most}
use Rattle.walk.proofs.record.unit.Goals as goal

pub returns : goal.returns
unfolding mask_length
returns c =
    let j = c.args.j in
    let asked = c.requires in
    let power = shl_exact {a = 1} 1 (4 * j) 64 (omega arith) (omega arith) ∙ omega arith in
    record { value = power; upper_bound = rw power (unit_most j asked) }
