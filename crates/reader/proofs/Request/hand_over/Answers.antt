-- `reader::Request::hand_over` meets its contract: what is left to no owner shows nothing but success (Handed.antt). Assumes nothing.
use native.Mathlib.Omega.{arith}
use Rattle.reader.proofs.Handed.{hands_nothing}
use Rattle.reader.proofs.Request.hand_over.Goals as goal

pub returns-in_default : goal.returns-in_default
returns-in_default c =
    hands_nothing _ _ _ _ (λ e. grind arith) (λ e. grind arith) (λ e. grind arith) (λ e. grind arith) c.nothing.ensures
