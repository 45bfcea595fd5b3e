-- Any two results that a promise of this crate allows are equal, in what is returned and in every lent byte. Assumes nothing.
use mathlib.Core.Path.{◌≡◌, sym, ◌∙◌}
use mathlib.Core.List.{List}
use Prim.Native.Nat.{ℕ}
use lib.IntN.{ℤ}
use Rattle.reader.specs.declared.Request.{Request}
use Rattle.reader.specs.Request.{Makes}

pub make_unique : (q : Request) (written room : List ℕ) {r s : ℤ} {x y : List ℕ} → Makes q written room r x → Makes q written room s y
    → (r ≡ s) × (x ≡ y)
make_unique q written room p m = (p.answer ∙ sym m.answer, p.leaves ∙ sym m.leaves)
