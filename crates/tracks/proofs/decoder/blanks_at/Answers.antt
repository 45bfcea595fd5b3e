-- `tracks::decoder::blanks_at` meets its contract. The loop's invariant: i bytes 00 passed and those that follow are all there are.
-- The measure is what is left of the part. Assumes nothing.
use native.Mathlib.Omega.{arith}
use Rattle.tracks.proofs.Zeros.{zeros_skip}
use Rattle.tracks.proofs.decoder.blanks_at.Goals as goal

pub loop-i-preserved : goal.loop-i-preserved
loop-i-preserved c =
    let args = c.args in
    let loop = c.loop-i in
    let asked = c.requires in
    let eight-blank = c.eight_blank in
    let bytes = eight-blank.ensures c.if-not-eight_blank.false in
    let eight = zeros_skip 8 args.track.now args.at args.n loop.i (omega arith) asked bytes in
    (omega arith, omega (arith, eight))
