-- Any two results that a promise of this crate allows are equal, in what is returned and in every lent card. Assumes nothing.
use mathlib.Core.Path.{◌≡◌, sym, ◌∙◌}
use mathlib.Core.List.{List}
use Rattle.card.specs.declared.Card.{Card}
use Rattle.walk.specs.declared.Walk.{Walk}
use Rattle.row.specs.declared.Air.{Air}
use Rattle.row.specs.Row.{HearsRow}

pub listen_row_unique : (w : Walk) (row : List Card) (r s : Air) (left right : List Card) → HearsRow w row r left → HearsRow w row s right → (r ≡ s) × (left ≡ right)
listen_row_unique w row r s left right p q = (p.air ∙ sym q.air, p.row_left ∙ sym q.row_left)
