-- `tracks::decoder::eight_blank` meets its contract. The loop's invariant: the bytes passed stand over each other. Bytes put over each
-- other are 00 only if each is. Assumes nothing.
use mathlib.Core.Path.{◌≡◌}
use lib.ListN.{get_or}
use Rattle.lent.proofs.Ors.{ors}
use Rattle.tracks.proofs.decoder.eight_blank.Given as goal

abbrev pub invariant-loop-b : goal.invariant-loop-b
invariant-loop-b l = l.all ≡ ors l.b-index (λ i. get_or l.b-items i 0)
