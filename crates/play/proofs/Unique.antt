-- Any two results that a promise of this crate allows are equal, in what is returned and in every lent byte. Assumes nothing.
use mathlib.Core.Path.{◌≡◌, sym, ap, ◌∙◌}
use mathlib.Core.List.{List}
use Prim.Native.Nat.{ℕ}
use Rattle.std.specs.Prelude.{Result, Ok, Err}
use Rattle.refusals.specs.declared.Refusal.{Refusal}
use Rattle.refusals.specs.Number.{number_of}
use Rattle.refusals.proofs.Numbers.{number_tells, number_is_some}
use Rattle.card.specs.declared.Card.{Card}
use Rattle.play.specs.declared.Served.{Served}
use Rattle.play.specs.Events.{Outcome, card_after, length_of, Leaves}

served_same : (r s : Served) → r.card ≡ s.card → r.length ≡ s.length → r ≡ s
served_same r s p q = λ i. record { card = p i; length = q i }

result_same : (c : Card) (r s : Result Served Refusal) → card_after c r ≡ card_after c s → number_of r ≡ number_of s → length_of r ≡ length_of s → r ≡ s
unfolding card_after number_of length_of
result_same c (Ok r) (Ok s) p q u = ap Ok (served_same r s p u)
result_same c (Ok r) (Err s) p q u = absurd (number_is_some s (sym q))
result_same c (Err r) (Ok s) p q u = absurd (number_is_some r q)
result_same c (Err r) (Err s) p q u = ap Err (number_tells r s q)

-- for each of the three events, whatever it is promised to leave
pub leaves_unique : (c : Card) (o : Outcome) (r s : Result Served Refusal) (memory memory' locks locks' answer answer' : List ℕ)
    → Leaves c o r memory locks answer → Leaves c o s memory' locks' answer' → (r ≡ s) × (memory ≡ memory') × (locks ≡ locks') × (answer ≡ answer')
leaves_unique c o r s memory memory' locks locks' answer answer' p q = (
  result_same c r s (p.card ∙ sym q.card) (p.number ∙ sym q.number) (p.told ∙ sym q.told),
  p.memory_left ∙ sym q.memory_left,
  p.locks_left ∙ sym q.locks_left,
  p.answer_left ∙ sym q.answer_left,
)
