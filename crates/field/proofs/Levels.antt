-- The levels of a walk: its marks fit after one level's change, none is set at the start, the new mask fits.
-- By cases on the level, and a digit above a tail. Assumes nothing.
use mathlib.Core.Path.{◌≡◌}
use Prim.Native.Nat.{ℕ, suc, ◌+◌, ◌*◌, ◌%◌, ◌^◌, ◌<◌}
use native.Mathlib.Decide.{ℕ_discrete}
use native.Mathlib.Numerals.{add-one}
use native.Mathlib.Omega.{arith}
use mathlib.Core.List.{List}
use lib.ListN.{length, get_or, set}
use lib.Seq.{get_or-set_same, get_or-set_other}
use Rattle.tails.proofs.Digits.{digits_of_bits}
use Rattle.walk.specs.declared.Walk.{Walk}
use Rattle.walk.specs.Marks.{lowest}
use Rattle.walk.specs.Record.{mask_length, whole_mask, no_marks, opened_mask, opened}
use Rattle.walk.proofs.Levels.{lowest_is_slot, deepest_none}
use Rattle.walk.proofs.Limits.{opened_mask_fits, mask_opened}
use Rattle.field.proofs.Waiting.{deepest_last}

-- no mark at the start
pub no_mark : (levels j : ℕ) → get_or (no_marks levels) j 0 ≡ 0
no_mark levels j = deepest_last (no_marks levels) j (rw (deepest_none levels) (omega arith))

-- a level is given marks that fit
pub set_fits : (marks : List ℕ) (k m : ℕ) → k < length marks → m < 65536 → ((j : ℕ) → get_or marks j 0 < 65536)
    → (j : ℕ) → get_or (set marks k m) j 0 < 65536
set_fits marks k m h g f j = go (ℕ_discrete j k)
  where
    go : Dec (j ≡ k) → get_or (set marks k m) j 0 < 65536
    go (yes e) = rw (e, get_or-set_same marks k m 0 h) g
    go (no e) = rw (get_or-set_other marks k j m 0 e) (f j)

-- "the slot digit above the old mask", as a tail
pub opened_mask_lem : (mask j s : ℕ) → opened_mask mask j s ≡ mask % 16 ^ j + s * 16 ^ j
unfolding opened_mask mask_length
opened_mask_lem mask j s = rw (digits_of_bits j)

pub opened_mask_below : (w : Walk) (j : ℕ) → whole_mask (opened w j) < 16 ^ suc j
unfolding mask_length
opened_mask_below w j =
    let m : ℕ = get_or w.marks j 0 in
    rw (mask_opened w j) (rw (digits_of_bits (j + 1), add-one) at (opened_mask_fits (whole_mask w) j (lowest m) (lowest_is_slot m)))
