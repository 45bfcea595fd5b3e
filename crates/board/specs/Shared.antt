-- 02, W5: "Two racks, one list." What C is told by each of its calls, and what they leave of record, rows and marks.
use Rattle.std.specs.Prelude.{List, ◌≡◌, ℕ, ℤ}
use Rattle.lent.specs.Lent.{refused}
use Rattle.walk.specs.declared.Walk.{Walk}
use Rattle.walk.specs.Shared.{Starting, SharedHearing}

-- starting: 0, or minus the number of the refusal; the walk where it stands, and every mark
pub record StartsInPlace (s : Starting) (r : ℤ) (walk : Walk) (owners : List ℕ) : Type 0 where
  pub answer : r ≡ refused s.number
  pub walk_left : walk ≡ s.walk
  pub owners_left : owners ≡ s.owners

-- hearing: 0, or minus the number of the refusal; the walk where it stands, every row and every mark
pub record HearsSharedInPlace (h : SharedHearing) (r : ℤ) (walk : Walk) (rows owners : List ℕ) : Type 0 where
  pub answer : r ≡ refused h.number
  pub walk_left : walk ≡ h.walk
  pub rows_left : rows ≡ h.rows
  pub owners_left : owners ≡ h.owners
