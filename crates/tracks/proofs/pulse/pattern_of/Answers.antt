-- `tracks::pulse::pattern_of` meets its contract: two tests pick one of four. By the arm of the first and of the second. Assumes nothing.
use mathlib.Core.Bool.{true, false}
use mathlib.Core.Path.{ap, ◌∙◌}
use Prim.Native.Nat.{ℕ, ◌/◌}
use native.Mathlib.Omega.{arith}
use borrow.Author.Tests.{eq-eqb, ne_eqb}
use Rattle.tracks.proofs.Patterns.{picked_is}
use Rattle.tracks.proofs.pulse.pattern_of.Goals as goal
use Rattle.tracks.proofs.pulse.pattern_of.Goals.{then-v-eq0, else-v-eq0}

pub returns-then-v-eq0-2 : goal.returns-then-v-eq0-2
returns-then-v-eq0-2 c =
    let v = c.args.v in
    let low = eq-eqb _ _ c.if-v-eq0-2.true in
    elim c.if-v-eq0.branch [
      | then-v-eq0 w ↦ w.x-is ∙ picked_is v (omega arith) true true (eq-eqb _ _ w.if-v-eq0.true) low
      | else-v-eq0 w ↦ w.x-is ∙ picked_is v (omega arith) false true (ne_eqb _ _ w.if-v-eq0.false) low
    ]

pub returns-else-v-eq0-2 : goal.returns-else-v-eq0-2
returns-else-v-eq0-2 c =
    let v = c.args.v in
    let low = ne_eqb _ _ c.if-v-eq0-2.false in
    elim c.if-v-eq0.branch [
      | then-v-eq0 w ↦ ap (λ (x : ℕ). x / 4) w.x-is ∙ picked_is v (omega arith) true false (eq-eqb _ _ w.if-v-eq0.true) low
      | else-v-eq0 w ↦ ap (λ (x : ℕ). x / 4) w.x-is ∙ picked_is v (omega arith) false false (ne_eqb _ _ w.if-v-eq0.false) low
    ]
