-- `digits::is_pair` meets its contract: the definition is the same three tests. Assumes nothing.
use mathlib.Core.Path.{◌≡◌, sym, ◌∙◌}
use mathlib.Core.Bool.{true, false}
use borrow.Author.Tests.{eq-eqb, ne_eqb, eqb-true}
use Rattle.digits.specs.Digits.{is_digit}
use Rattle.digits.specs.Rows.{is_pair}
use Rattle.digits.proofs.Digits.{value_some}
use Rattle.digits.proofs.is_pair.Goals as goal
use Rattle.digits.proofs.is_pair.Goals.{then-space-eq32, else-space-eq32}

pub returns-then-is_some : goal.returns-then-is_some
unfolding is_pair
returns-then-is_some c =
    elim c.if-space-eq32.branch [
      | then-space-eq32 w ↦
          let high : is_digit c.args.high ≡ true = cc (value_some c.args.high, w.is_some.ensures, w.digit_of.ensures, w.value-is, c.if-is_some.true) in
          rw (eq-eqb c.args.space 0x20 w.if-space-eq32.true, high)
          (c.is_some-then-is_some.ensures ∙ rw c.digit_of-then-is_some.ensures (value_some c.args.low))
      | else-space-eq32 w ↦ absurd (w.if-space-eq32.false (eqb-true _ _ (sym w.value-is ∙ c.if-is_some.true)))
    ]

pub returns-else-is_some : goal.returns-else-is_some
unfolding is_pair
returns-else-is_some c =
    elim c.if-space-eq32.branch [
      | then-space-eq32 w ↦
          let high : is_digit c.args.high ≡ false = cc (value_some c.args.high, w.is_some.ensures, w.digit_of.ensures, w.value-is, c.if-is_some.false) in
          rw (eq-eqb c.args.space 0x20 w.if-space-eq32.true, high) c.if-is_some.false
      | else-space-eq32 w ↦ rw (ne_eqb c.args.space 0x20 w.if-space-eq32.false) c.if-is_some.false
    ]
