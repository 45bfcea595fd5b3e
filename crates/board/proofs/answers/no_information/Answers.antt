-- `no_information` keeps its promise: all zeros. Assumes nothing.
use mathlib.Core.Path.{refl}
use Rattle.board.specs.Answers.{no_information}
use Rattle.board.proofs.answers.no_information.Goals as goal

pub returns : goal.returns
unfolding no_information
returns c = refl
