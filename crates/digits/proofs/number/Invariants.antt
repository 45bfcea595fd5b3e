-- `digits::number` meets its contract. The loop's invariant: the number so far is that of the first i digits. Assumes nothing.
use mathlib.Core.Path.{◌≡◌}
use Rattle.digits.specs.Digits.{number_at}
use Rattle.digits.proofs.number.Given as goal

abbrev pub invariant-loop-i : goal.invariant-loop-i
invariant-loop-i l = l.n ≡ number_at l.text l.at l.i
