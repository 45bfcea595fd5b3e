-- `ek_seal` may tell the length: it is within the buffer (Lengths.antt). Assumes nothing.
use native.Mathlib.Omega.{arith}
use Rattle.board.proofs.Lengths.{sealed_within}
use Rattle.board.proofs.ek_seal.Goals as goal

pub back-requires : goal.back-requires
back-requires c = let owned = c.well_formed in
    sealed_within _ _ _ _ _ (omega (arith, owned.0)) c.seal.ensures
