-- Any two results that the promise of reading from C allows are equal: what is returned, and every lent byte. Assumes nothing.
use mathlib.Core.Path.{◌≡◌, sym, ◌∙◌}
use mathlib.Core.List.{List}
use Prim.Native.Nat.{ℕ}
use Rattle.reader.specs.Reading.{Outcome}
use Rattle.board.specs.declared.answers.Shown.{Shown}
use Rattle.board.specs.Answers.{ReadsByValue}

both : {r s : Shown} → r.answer ≡ s.answer → r.information ≡ s.information → r ≡ s
both p q = λ i. record { answer = p i; information = q i }

pub read_by_value_unique : (o : Outcome) (r s : Shown) (blocks blocks' locks locks' : List ℕ) → ReadsByValue o r blocks locks
    → ReadsByValue o s blocks' locks' → (r ≡ s) × (blocks ≡ blocks') × (locks ≡ locks')
read_by_value_unique o r s blocks blocks' locks locks' p q = (
  both (p.answer ∙ sym q.answer) (p.information ∙ sym q.information),
  p.blocks_left ∙ sym q.blocks_left,
  p.locks_left ∙ sym q.locks_left,
)
