-- `tracks::decoder::zeros_at` meets its contract. The loop's invariant: i bytes 00 passed and those that follow are all there are.
-- It holds of those that `blanks_at` passed. Assumes nothing.
use native.Mathlib.Omega.{arith}
use Rattle.tracks.proofs.Zeros.{zeros_more, zeros_done, zeros_none}
use Rattle.tracks.proofs.decoder.zeros_at.Goals as goal

pub returns-then-track-at-ne0 : goal.returns-then-track-at-ne0
returns-then-track-at-ne0 c =
    omega (arith, zeros_done c.args.track.now c.args.at c.args.n c.loop-i.i c.loop-i-test.true c.requires c.if-track-at-ne0.true)

pub loop-i-preserved : goal.loop-i-preserved
loop-i-preserved c =
    (omega arith, omega (arith, zeros_more c.args.track.now c.args.at c.args.n c.loop-i.i c.loop-i-test.true c.requires c.if-track-at-ne0.false))

pub returns : goal.returns
returns c = omega (arith, zeros_none c.args.track.now c.args.at c.args.n c.loop-i.i c.loop-i-test.false)
