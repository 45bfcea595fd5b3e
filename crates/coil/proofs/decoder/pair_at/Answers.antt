-- `coil::decoder::pair_at` meets its contract: a shift and a mask. Assumes nothing.
use lib.Bits.{and_mask}
use Rattle.coil.specs.Decoder.{pair_at}
use Rattle.coil.proofs.decoder.pair_at.Goals as goal

pub returns : goal.returns
unfolding pair_at
returns c = and_mask _ 2
