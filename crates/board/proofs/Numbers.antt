-- Minus the number of a refusal, as the machine works it out in 64 bits. By cases on 0. Assumes nothing.
use mathlib.Core.Path.{◌≡◌, ap, ◌∙◌}
use Prim.Native.Nat.{ℕ, zero, suc, ◌<◌}
use native.Mathlib.Omega.{arith}
use lib.IntN.{ℤ, pos, ◌-ℤ◌, +ℤ_idl}
use mir.Syntax.{w64}
use mir.Val.{SFits, to_z}
use mir.ValLaws.{to_z_pos}
use Rattle.lent.specs.Lent.{refused}

pub refused_fits : (n : ℕ) → n < 256 → SFits w64 (refused n)
refused_fits zero h = record { sfits = omega arith }
refused_fits (suc n) h = record { sfits = omega arith }

pub minus_refused : (n : ℕ) → n < 256 → pos 0 -ℤ to_z w64 n ≡ refused n
minus_refused n h =
    let half : n < 9223372036854775808 = omega arith in
    ap (λ (z : ℤ). pos 0 -ℤ z) (to_z_pos w64 n half) ∙ +ℤ_idl (refused n)
