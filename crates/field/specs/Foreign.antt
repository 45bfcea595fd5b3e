-- 02, W6: "a clean reply whose UID doesn't start with E0 is a clash": demand 3 without its premise, of cards whose UIDs begin with anything. A card whose
-- UID does not begin with E0 is heard as two alike.
use Rattle.std.specs.Prelude.{ℕ, ◌+◌, ◌*◌, ◌/◌, ◌%◌, ◌^◌, ◌≤◌, false, cond, List, [], ◌∷◌, ◌≡◌, eqb, length}
use Rattle.walk.specs.declared.Walk.{Walk}
use Rattle.walk.specs.Record.{complete, twins, full, is_running}
use Rattle.play.specs.Life.{Tag}
use Rattle.field.specs.Field.{answering}
use Rattle.field.specs.Played.{Play, played_for, fresh}
use Rattle.field.specs.Found.{BeginE0, Found}
use Rattle.field.specs.Demand.{AllObey}

-- a UID with E0 in place of its first byte
unfoldable pub with_e0 : ℕ → ℕ
with_e0 u = 0xe0 * 2 ^ 56 + u % 2 ^ 56

-- the UIDs as they count: one that does not begin with E0 counts twice
unfoldable pub as_heard : List ℕ → List ℕ
as_heard [] = []
as_heard (u ∷ us) = cond (eqb (u / 2 ^ 56) 0xe0) (u ∷ as_heard us) (with_e0 u ∷ with_e0 u ∷ as_heard us)

-- a walk at its end, us being the UIDs of the cards that answer, whatever they begin with
pub record FoundAny (us : List ℕ) (w : Walk) (list : List ℕ) : Type 0 where
  pub ends : is_running w ≡ false
  -- complete, no card was missed: all that answer have UIDs that begin with E0, and demand 3 holds of them
  pub complete_e0 : w.ending ≡ complete → BeginE0 us
  pub complete_found : w.ending ≡ complete → Found us w list
  -- a card that has another first byte ends the walk in twins, where there are not too many
  pub foreign_twins : length (as_heard us) ≤ 64 → (BeginE0 us → ⊥) → w.ending ≡ twins
  pub foreign_ends : (BeginE0 us → ⊥) → (w.ending ≡ full → ⊥) → w.ending ≡ twins
  pub no_overrun : w.ending ≤ full

unfoldable pub AnyUids : Type 0
AnyUids =
    (family : ℕ) (tags : List Tag) (list room : List ℕ) → AllObey tags → 64 ≤ length list → 14 ≤ length room
    → let p : Play = played_for (16 * 417) (fresh family list room tags) in
    FoundAny (answering family tags) p.walk p.list
