-- `tracks::pulse::pair_of` meets its contract: the near pair if its pattern is the byte, else none. Assumes nothing.
use native.Mathlib.Omega.{arith}
use mathlib.Core.Path.{sym, ◌∙◌}
use Rattle.tracks.proofs.Patterns.{near_is, near_is_not}
use Rattle.tracks.proofs.pulse.pair_of.Goals as goal

pub returns-then-pattern_of-b : goal.returns-then-pattern_of-b
returns-then-pattern_of-b c = near_is c.args.b (omega arith) (sym c.pattern_of.ensures ∙ c.if-pattern_of-b.true)

pub returns-else-pattern_of-b : goal.returns-else-pattern_of-b
returns-else-pattern_of-b c =
    let args = c.args in
    let first = c.if-pattern_of-b in
    let pattern-of = c.pattern_of in
    near_is_not args.b (omega arith) (λ e. first.false (pattern-of.ensures ∙ e))
