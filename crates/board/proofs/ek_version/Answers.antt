-- `ek_version` keeps its promise: the code works out the number of the definition. By computing both. Assumes nothing.
use mathlib.Core.Path.{refl}
use Rattle.board.specs.Version.{version, version_number}
use Rattle.board.proofs.ek_version.Goals as goal

pub returns : goal.returns
unfolding version version_number
returns c = refl
