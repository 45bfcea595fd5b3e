-- `coil::decoder::sixteen_good` meets its contract. The loop's invariant: the flaws passed stand over each other. They are 0 only if each is.
-- Assumes nothing.
use mathlib.Core.Path.{◌≡◌}
use lib.ListN.{get_or}
use Rattle.coil.specs.Steps.{flaws}
use Rattle.lent.proofs.Ors.{ors}
use Rattle.coil.proofs.decoder.sixteen_good.Given as goal

abbrev pub invariant-loop-b : goal.invariant-loop-b
invariant-loop-b l = l.all ≡ ors l.b-index (λ i. flaws (get_or l.b-items i 0))
