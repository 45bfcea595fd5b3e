-- `digits::put_digits` meets its contract. The loop's invariant: the digits that are left, placed here, come to the whole. Assumes nothing.
use mathlib.Core.Path.{◌≡◌}
use Prim.Native.Nat.{◌≤◌, ◌-◌}
use Rattle.lent.specs.Lent.{placed}
use Rattle.digits.specs.Digits.{hex_digits}
use Rattle.digits.proofs.put_digits.Given as goal

abbrev pub invariant-loop-i : goal.invariant-loop-i
invariant-loop-i l =
    (l.at ≤ l.i) × (placed l.at (hex_digits (l.i - l.at) l.rest) l.text ≡ placed l.at (hex_digits l.count l.n) l.initial.text)
