-- Any two results that a promise of this crate allows are equal: each is the one value of its definition. Assumes nothing.
use mathlib.Core.Path.{◌≡◌, sym, ◌∙◌}
use mathlib.Core.List.{List}
use Prim.Native.Nat.{ℕ}
use lib.IntN.{ℤ}
use Rattle.std.specs.Prelude.{Result}
use Rattle.refusals.specs.declared.Refusal.{Refusal}
use Rattle.refusals.specs.Number.{number_back}
use Rattle.refusals.proofs.Numbers.{number_back_tells}
use Rattle.frames.specs.Field.{PutsField}
use Rattle.frames.specs.Frame.{Seals}

pub put_field_unique : {buffer : List ℕ} {at count value : ℕ} {r s : ℤ} {left right : List ℕ}
    → PutsField buffer at count value r left → PutsField buffer at count value s right → (r ≡ s) × (left ≡ right)
put_field_unique p q = (p.answer ∙ sym q.answer, p.leaves ∙ sym q.leaves)

pub seal_unique : {buffer : List ℕ} {n : ℕ} {r s : ℤ} {left right : List ℕ}
    → Seals buffer n r left → Seals buffer n s right → (r ≡ s) × (left ≡ right)
seal_unique p q = (p.answer ∙ sym q.answer, p.leaves ∙ sym q.leaves)

-- and so are the results of which the promise tells the number
pub put_field_result_unique : {buffer : List ℕ} {at count value : ℕ} (r s : Result ℕ Refusal) {left right : List ℕ}
    → PutsField buffer at count value (number_back r) left → PutsField buffer at count value (number_back s) right → (r ≡ s) × (left ≡ right)
put_field_result_unique r s p q = let same = put_field_unique p q in (number_back_tells r s same.0, same.1)

pub seal_result_unique : {buffer : List ℕ} {n : ℕ} (r s : Result ℕ Refusal) {left right : List ℕ} → Seals buffer n (number_back r) left
    → Seals buffer n (number_back s) right → (r ≡ s) × (left ≡ right)
seal_result_unique r s p q = let same = seal_unique p q in (number_back_tells r s same.0, same.1)
