-- `play::answer::put_done` meets its contract: its one store puts one byte. Assumes nothing.
use mathlib.Core.List.{[], ◌∷◌}
use Rattle.play.proofs.Answers.{puts_sets}
use Rattle.play.proofs.answer.put_done.Goals as goal

pub returns : goal.returns
returns c = puts_sets (0x00 ∷ []) _ c.requires
