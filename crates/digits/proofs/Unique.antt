-- Any two results that a promise of this crate allows are equal: each is the one value of its definition. Assumes nothing.
use mathlib.Core.Path.{◌≡◌, sym, ◌∙◌}
use mathlib.Core.List.{List}
use Prim.Native.Nat.{ℕ}
use lib.IntN.{ℤ}
use Rattle.digits.specs.Rows.{ReadsRow}
use Rattle.digits.specs.Put.{PutsText}

pub read_row_unique : {text buffer : List ℕ} {r s : ℤ} {left right : List ℕ}
    → ReadsRow text buffer r left → ReadsRow text buffer s right → (r ≡ s) × (left ≡ right)
read_row_unique p q = (p.answer ∙ sym q.answer, p.leaves ∙ sym q.leaves)

pub put_text_unique : {bytes text : List ℕ} {at : ℕ} {r s : ℤ} {left right : List ℕ}
    → PutsText bytes text at r left → PutsText bytes text at s right → (r ≡ s) × (left ≡ right)
put_text_unique p q = (p.answer ∙ sym q.answer, p.leaves ∙ sym q.leaves)
