-- 01, The walk: "A walk keeps, for each of its 16 levels, which slots clashed and wait."; 02, W6: "fourteen levels in place of sixteen".
use Rattle.std.specs.Prelude.{ℕ, zero, suc, ◌+◌, ◌-◌, ◌/◌, ◌%◌, ◌^◌, Bool, cond, List, eqb, length, get_or}

-- "fourteen levels": those of a fresh walk. Any walk has as many levels as marks
unfoldable pub levels : ℕ
levels = 14

-- "which slots clashed and wait": slot s waits where bit s of its level's number is set
unfoldable pub waits : ℕ → ℕ → Bool
waits m s = eqb (m / 2 ^ s % 2) 1

-- the slot clashed
unfoldable pub with_mark : ℕ → ℕ → ℕ
with_mark m s = cond (waits m s) m (m + 2 ^ s)

-- the slot is opened
unfoldable pub without_mark : ℕ → ℕ → ℕ
without_mark m s = cond (waits m s) (m - 2 ^ s) m

-- "the lowest unopened clash": the first slot that waits of the n from s on, or else the one after them
unfoldable pub lowest_from : ℕ → ℕ → ℕ → ℕ
lowest_from m s zero = s
lowest_from m s (suc n) = cond (waits m s) s (lowest_from m (suc s) n)

-- of slots 0 to 15, where one waits
unfoldable pub lowest : ℕ → ℕ
lowest m = lowest_from m 0 15

-- "of the deepest level that has one": one more than the deepest of the first n levels that has a mark, or 0
unfoldable pub deepest_of : List ℕ → ℕ → ℕ
deepest_of marks zero = 0
deepest_of marks (suc n) = cond (eqb (get_or marks n 0) 0) (deepest_of marks n) (suc n)

unfoldable pub deepest : List ℕ → ℕ
deepest marks = deepest_of marks (length marks)
