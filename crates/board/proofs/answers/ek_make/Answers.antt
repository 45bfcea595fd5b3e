-- `ek_make` may tell the length: a request has 45 bytes at the most (Lengths.antt). Assumes nothing.
use Rattle.board.proofs.Lengths.{made_within}
use Rattle.board.proofs.answers.ek_make.Goals as goal

pub back-requires : goal.back-requires
back-requires c = made_within _ _ _ _ _ c.make.ensures
