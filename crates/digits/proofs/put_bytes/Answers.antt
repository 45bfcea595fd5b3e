-- `digits::put_bytes` meets its contract: refused for want of room, else copied. Assumes nothing.
use native.Mathlib.Omega.{arith}
use Prim.Native.Nat.{◌-◌}
use mathlib.Core.Path.{refl}
use Rattle.std.proofs.lemmas.Result.{err_from_is_err_and}
use Rattle.digits.proofs.Put.{put_refused, put_served, part_placed}
use Rattle.digits.proofs.put_bytes.Goals as goal

pub returns-in_err-end : goal.returns-in_err-end
returns-in_err-end c =
    let p = err_from_is_err_and c.from_residual.result c.from_residual.ensures.1 in
    let short = c.in_err-end.ensures in
    put_refused _ _ _ _ _ refl (cc (p.1, p.2, short.0)) (omega (arith, short.1))

pub returns : goal.returns
returns c =
    let here = c.in_ok-end.ensures in
    let part = part_placed c.args.bytes.now c.args.text.now c.args.at (c.in_ok-end.end - c.args.at) (omega (arith, here.0)) in
    put_served _ _ _ _ _ _ refl here.0 here.1 (rw c.copy_from_slice.ensures.after part)
