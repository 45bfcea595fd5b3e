-- Every walk that is reached is one that number 10 accepts, whatever was heard, and a card takes its masks. By what each slot keeps.
-- Assumes nothing.
use mathlib.Core.Path.{◌≡◌}
use mathlib.Core.Bool.{true}
use mathlib.Core.List.{List}
use Prim.Native.Nat.{ℕ, ◌≤◌, ◌<◌}
use Rattle.walk.specs.declared.Walk.{Walk}
use Rattle.walk.specs.Record.{is_accepted}
use Rattle.walk.proofs.Limits.{is_accepted_of_accepted, level_most}
use Rattle.field.proofs.AnyReplies.{Walks}

pub walks_accepted : {levels : ℕ} (w : Walk) (ls : List ℕ) (t : ℕ) → w.slot < 16 → Walks levels w ls t → is_accepted w ≡ true
walks_accepted w ls t h g = is_accepted_of_accepted w g.steady.accepted

-- "mask length over 60 (sixteen slots)": up to sixteen levels
pub walks_level : {levels : ℕ} (w : Walk) (ls : List ℕ) (t : ℕ) → levels ≤ 16 → Walks levels w ls t → w.level < 16
walks_level w ls t h g = level_most g.steady.accepted (rw g.marks_length h)
