-- Any two results that the promise of `picture` allows are equal, in what is returned and in every byte of the room. Assumes nothing.
use mathlib.Core.Path.{◌≡◌, sym, ◌∙◌}
use mathlib.Core.List.{List}
use Prim.Native.Nat.{ℕ}
use lib.IntN.{ℤ}
use Rattle.picture.specs.Drawn.{Pictures}

pub pictures_unique : (input room : List ℕ) (r s : ℤ) (left right : List ℕ) → Pictures input room r left → Pictures input room s right
    → (r ≡ s) × (left ≡ right)
pictures_unique input room r s left right p q = (p.answer ∙ sym q.answer, p.leaves ∙ sym q.leaves)
