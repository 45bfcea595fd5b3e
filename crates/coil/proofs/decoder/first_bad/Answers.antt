-- `coil::decoder::first_bad` meets its contract. The loop's invariant: no bit of the bytes passed is bad; the first with a flaw has the first bad bit.
-- Assumes nothing.
use native.Mathlib.Omega.{arith}
use native.Mathlib.Nat.{zero-add}
use mathlib.Core.Path.{sym, ◌∙◌}
use Prim.Native.Nat.{◌+◌, ◌*◌}
use lib.ListN.{get_or}
use Rattle.coil.proofs.Flaws.{first_of_most, pass_byte, first_in_byte}
use Rattle.coil.proofs.First.{first_none, found_below, found_none}
use Rattle.coil.specs.Decoder.{is_bad}
use Rattle.coil.specs.Steps.{flaws}
use Rattle.coil.proofs.decoder.first_bad.Goals as goal

pub overflow_add-result : goal.overflow_add-result
overflow_add-result c = rw c.first_of.ensures (omega (arith, first_of_most c.flaws_of-flaws.result))

pub returns-then-flaws-ne0 : goal.returns-then-flaws-ne0
returns-then-flaws-ne0 c =
    let t = c.args.track.now in
    let is = first_in_byte t c.loop-i.i c.args.n c.loop-i-test.true c.loop-i.invariant.1 (rw c.flaws_of-flaws.ensures at c.if-flaws-ne0.true) in
    let most = first_of_most (flaws (get_or t (1 + c.loop-i.i) 0)) in
    rw (c.first_of.ensures, c.flaws_of-flaws.ensures, ← is) (found_below (4 * c.args.n) _ (omega (arith, most)))

pub loop-i-preserved : goal.loop-i-preserved
loop-i-preserved c = (omega arith, pass_byte c.args.track.now c.loop-i.i c.loop-i.invariant.1 (sym c.flaws_of-flaws.ensures ∙ c.if-flaws-ne0.false))

pub returns : goal.returns
returns c =
    let all = rw zero-add at (first_none (is_bad c.args.track.now) 0 (4 * c.args.n) (λ j h l. c.loop-i.invariant.1 j (omega arith))) in
    rw all (found_none (4 * c.args.n) (4 * c.args.n) (omega arith))
