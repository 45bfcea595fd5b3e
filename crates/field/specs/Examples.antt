-- 01, Bench: "For E004010000000011, E004010000000021, E004010000000005 it prints, whole": complete, 2 rounds, 3 cards. Here of a walk of any family over
-- any cards of which just these three answer.
use Rattle.std.specs.Prelude.{ℕ, ◌*◌, ◌≤◌, List, [], ◌∷◌, ◌≡◌, length}
use Rattle.walk.specs.declared.Walk.{Walk}
use Rattle.walk.specs.Marks.{levels}
use Rattle.walk.specs.Record.{complete, no_marks}
use Rattle.play.specs.Life.{Tag}
use Rattle.field.specs.Field.{answering}
use Rattle.field.specs.Played.{Play, played_for, fresh}
use Rattle.field.specs.Found.{listed}
use Rattle.field.specs.Demand.{AllObey}

abbrev pub three : List ℕ
three = 0xe004010000000011 ∷ 0xe004010000000021 ∷ 0xe004010000000005 ∷ []

-- the walk at its end, after the round of mask 1
abbrev pub three_end : ℕ → Walk
three_end family = record { mask_low = 1; mask_high = 0; marks = no_marks levels; rounds = 2; family = family; level = 1; slot = 15; count = 3; ending = complete }

pub record FieldOfThree : Type 0 where
  pub ends : (family : ℕ) (tags : List Tag) (list room : List ℕ) → AllObey tags → 64 ≤ length list → 14 ≤ length room
      → answering family tags ≡ three → (played_for (16 * 417) (fresh family list room tags)).walk ≡ three_end family
  pub lists : (family : ℕ) (tags : List Tag) (list room : List ℕ) → AllObey tags → 64 ≤ length list → 14 ≤ length room
      → answering family tags ≡ three
      → let p : Play = played_for (16 * 417) (fresh family list room tags) in
      listed p.walk p.list ≡ 0xe004010000000005 ∷ 0xe004010000000011 ∷ 0xe004010000000021 ∷ []
