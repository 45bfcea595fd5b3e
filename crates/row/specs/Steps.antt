-- Steps of private functions: nothing here has to be held against the rules page.
use Rattle.std.specs.Prelude.{ℕ, cond, List, [], ◌∷◌, eqb}
use Rattle.row.specs.declared.Air.{Air}
use Rattle.row.specs.Row.{air_bytes}

-- the bytes that are handed to the walk: where not just one card answers they are not looked at, and stay 0
unfoldable pub no_answer : List ℕ
no_answer = 0 ∷ 0 ∷ 0 ∷ 0 ∷ 0 ∷ 0 ∷ 0 ∷ 0 ∷ 0 ∷ 0 ∷ 0 ∷ 0 ∷ []

unfoldable pub bytes_heard : Air → List ℕ
bytes_heard air = cond (eqb air.answers 1) (air_bytes air) no_answer
