-- `ek_coil_code` may tell the length: it is within the track (Lengths.antt). Assumes nothing.
use native.Mathlib.Omega.{arith}
use Rattle.board.proofs.Lengths.{answer_coded_within}
use Rattle.board.proofs.ek_coil_code.Goals as goal

pub back-requires : goal.back-requires
back-requires c =
    let owned = c.well_formed in
    answer_coded_within _ _ _ _ _ (omega (arith, owned.1.0)) c.code.ensures
