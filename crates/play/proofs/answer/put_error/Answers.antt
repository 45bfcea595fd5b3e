-- `play::answer::put_error` meets its contract: its two stores put two bytes. Assumes nothing.
use mathlib.Core.List.{[], ◌∷◌}
use Rattle.play.proofs.Answers.{puts_sets}
use Rattle.play.proofs.answer.put_error.Goals as goal

pub returns : goal.returns
returns c = puts_sets (0x01 ∷ c.args.code ∷ []) _ c.requires
