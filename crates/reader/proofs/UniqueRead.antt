-- Any two results that the promise of `read` allows are equal, in what is returned and in every lent byte. By the outcome that both are equal to.
-- Assumes nothing.
use mathlib.Core.Path.{◌≡◌, sym, ap, ◌∙◌}
use mathlib.Core.List.{List}
use Prim.Native.Nat.{ℕ}
use Rattle.std.specs.Prelude.{Result, Ok, Err}
use Rattle.std.specs.Result.{result_ok}
use Rattle.refusals.specs.declared.Refusal.{Refusal}
use Rattle.refusals.specs.Number.{number_of}
use Rattle.refusals.proofs.Numbers.{number_tells}
use Rattle.reader.specs.declared.Reading.{Reading}
use Rattle.reader.specs.Reading.{Outcome, Reads}

told_same : (r s : Result Reading Refusal) → number_of r ≡ number_of s → result_ok r ≡ result_ok s → r ≡ s
unfolding number_of
told_same (Ok x) (Ok y) p q = cc
told_same (Ok x) (Err e) p q = cc
told_same (Err e) (Ok y) p q = cc
told_same (Err e) (Err f) p q = ap Err (number_tells e f p)

pub read_unique : (o : Outcome) {r s : Result Reading Refusal} {b b' l l' : List ℕ} → Reads o r b l → Reads o s b' l' → (r ≡ s) × (b ≡ b') × (l ≡ l')
read_unique o {r} {s} p q = (
  told_same r s (p.number ∙ sym q.number) (p.reading ∙ sym q.reading),
  p.blocks_left ∙ sym q.blocks_left,
  p.locks_left ∙ sym q.locks_left,
)
