-- Any two results that a promise of the calls in place allows are equal: the number, the walk where it stands and every lent place.
-- Assumes nothing.
use mathlib.Core.Path.{◌≡◌, sym, ◌∙◌}
use mathlib.Core.List.{List}
use Prim.Native.Nat.{ℕ}
use lib.IntN.{ℤ}
use Rattle.walk.specs.declared.Walk.{Walk}
use Rattle.walk.specs.Hear.{Hearing}
use Rattle.walk.specs.Ask.{Asking}
use Rattle.walk.specs.Shared.{Starting, SharedHearing}
use Rattle.board.specs.Walked.{HearsInPlace, AsksInPlace}
use Rattle.board.specs.Shared.{StartsInPlace, HearsSharedInPlace}

pub hear_in_place_unique : (h : Hearing) (r s : ℤ) (walk walk' : Walk) (list list' : List ℕ)
    → HearsInPlace h r walk list → HearsInPlace h s walk' list' → (r ≡ s) × (walk ≡ walk') × (list ≡ list')
hear_in_place_unique h r s walk walk' list list' p q =
    (p.answer ∙ sym q.answer, p.walk_left ∙ sym q.walk_left, p.list_left ∙ sym q.list_left)

pub ask_in_place_unique : (a : Asking) (r s : ℤ) (room room' : List ℕ) → AsksInPlace a r room → AsksInPlace a s room' → (r ≡ s) × (room ≡ room')
ask_in_place_unique a r s room room' p q = (p.answer ∙ sym q.answer, p.room_left ∙ sym q.room_left)

pub start_shared_in_place_unique : (g : Starting) (r s : ℤ) (walk walk' : Walk) (owners owners' : List ℕ)
    → StartsInPlace g r walk owners → StartsInPlace g s walk' owners' → (r ≡ s) × (walk ≡ walk') × (owners ≡ owners')
start_shared_in_place_unique g r s walk walk' owners owners' p q =
    (p.answer ∙ sym q.answer, p.walk_left ∙ sym q.walk_left, p.owners_left ∙ sym q.owners_left)

pub hear_shared_in_place_unique : (h : SharedHearing) (r s : ℤ) (walk walk' : Walk) (rows rows' owners owners' : List ℕ)
    → HearsSharedInPlace h r walk rows owners → HearsSharedInPlace h s walk' rows' owners'
    → (r ≡ s) × (walk ≡ walk') × (rows ≡ rows') × (owners ≡ owners')
hear_shared_in_place_unique h r s walk walk' rows rows' owners owners' p q =
    (p.answer ∙ sym q.answer, p.walk_left ∙ sym q.walk_left, p.rows_left ∙ sym q.rows_left, p.owners_left ∙ sym q.owners_left)
