-- Any two results that a promise of this crate allows are equal: each is the one value of its definition. Assumes nothing.
use mathlib.Core.Path.{◌≡◌, refl, sym, ap, ◌∙◌}
use mathlib.Core.List.{List}
use Prim.Native.Nat.{ℕ}
use Rattle.std.specs.Prelude.{Result, Ok, Err}
use Rattle.refusals.specs.declared.Refusal.{Refusal}
use Rattle.refusals.specs.Number.{number_of}
use Rattle.refusals.proofs.Numbers.{number_tells, number_is_some}
use Rattle.card.specs.declared.Card.{Card}
use Rattle.record.specs.Record.{Writes}

result_same : (r s : Result (Unit {0}) Refusal) → number_of r ≡ number_of s → r ≡ s
unfolding number_of
result_same (Ok x) (Ok y) e = refl
result_same (Ok x) (Err s) e = absurd (number_is_some s (sym e))
result_same (Err r) (Ok y) e = absurd (number_is_some r e)
result_same (Err r) (Err s) e = ap Err (number_tells r s e)

pub write_unique : (c : Card) (found : List ℕ) (r s : Result (Unit {0}) Refusal) (left right : List ℕ) → Writes c found (number_of r) left
    → Writes c found (number_of s) right → (r ≡ s) × (left ≡ right)
write_unique c found r s left right p q = (result_same r s (p.number ∙ sym q.number), p.leaves ∙ sym q.leaves)
