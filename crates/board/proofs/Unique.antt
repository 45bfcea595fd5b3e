-- Any two results that the promise of a card's call allows are equal, in the number back and in every lent byte. Assumes nothing.
use mathlib.Core.Path.{◌≡◌, sym, ◌∙◌}
use mathlib.Core.List.{List}
use Prim.Native.Nat.{ℕ}
use lib.IntN.{ℤ}
use Rattle.board.specs.Calls.{Left, Gives}

-- for each of the three calls, whatever it is promised to leave
pub gives_unique : (l : Left) (r s : ℤ) (bytes bytes' memory memory' locks locks' answer answer' : List ℕ)
    → Gives l r bytes memory locks answer → Gives l s bytes' memory' locks' answer'
    → (r ≡ s) × (bytes ≡ bytes') × (memory ≡ memory') × (locks ≡ locks') × (answer ≡ answer')
gives_unique l r s bytes bytes' memory memory' locks locks' answer answer' p q = (
  p.back ∙ sym q.back,
  p.bytes_left ∙ sym q.bytes_left,
  p.memory_left ∙ sym q.memory_left,
  p.locks_left ∙ sym q.locks_left,
  p.answer_left ∙ sym q.answer_left,
)
