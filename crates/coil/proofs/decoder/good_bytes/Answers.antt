-- `coil::decoder::good_bytes` meets its contract. The loop's invariant: no bit of the bytes passed is bad. Assumes nothing.
use native.Mathlib.Omega.{arith}
use Rattle.coil.proofs.Flaws.{pass_bytes}
use Rattle.coil.proofs.decoder.good_bytes.Goals as goal
use Prim.Native.Nat.{◌*◌}

pub loop-i-preserved : goal.loop-i-preserved
loop-i-preserved c j h =
    pass_bytes c.args.track.now (16 * c.loop-i.i) 16 c.loop-i.invariant (c.sixteen_good.ensures c.if-not-sixteen_good.false) j (omega arith)
