-- `frames::Flags::of` meets its contract: each bit is the definition's. Assumes nothing.
use Rattle.frames.specs.Flags.{flags_of}
use Rattle.frames.proofs.Bits.{bit_set, lowest_set}
use Rattle.frames.proofs.Flags.of.Goals as goal

pub returns : goal.returns
unfolding flags_of
returns c =
    let b = c.args.b in
    λ i.
    record {
      b1 = lowest_set b i;
      b2 = bit_set b 1 i;
      b3 = bit_set b 2 i;
      b4 = bit_set b 3 i;
      b5 = bit_set b 4 i;
      b6 = bit_set b 5 i;
      b7 = bit_set b 6 i;
      b8 = bit_set b 7 i;
    }
