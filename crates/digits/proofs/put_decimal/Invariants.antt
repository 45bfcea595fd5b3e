-- `digits::put_decimal` meets its contract: the digits from the last on, then put. The loop's invariant: those above and those that stand there are the
-- whole. The measure is what is left of the number. Assumes nothing.
use mathlib.Core.Path.{◌≡◌}
use mathlib.Core.List.{◌++◌}
use Prim.Native.Nat.{◌^◌, ◌≤◌, ◌<◌}
use lib.ListN.{length, drop}
use Rattle.digits.specs.Decimal.{decimal}
use Rattle.digits.proofs.Decimal.{above}
use Rattle.digits.proofs.put_decimal.Given as goal

abbrev pub invariant-loop-rest : goal.invariant-loop-rest
invariant-loop-rest l =
    (length l.digits ≡ 20) × (l.first ≤ 20) × (l.rest < 10 ^ l.first) × (above l.rest ++ drop l.first l.digits ≡ decimal l.n)

abbrev pub decreases-loop-rest : goal.decreases-loop-rest
decreases-loop-rest l = l.rest
