-- 01, Bench: what the verdict, the rounds and the cards that are printed say of the UIDs of the input, and what the picture's line of twins names.
-- Demand 3, for the bench's desk.
use Rattle.std.specs.Prelude.{ℕ, ◌≤◌, List, [], ◌∷◌, ◌++◌, ◌≡◌}
use Rattle.digits.specs.Digits.{hex_digits}
use Rattle.tails.specs.Sum.{times}
use Rattle.walk.specs.Record.{twins}
use Rattle.field.specs.Found.{BeginE0, Found}
use Rattle.row.specs.declared.Desk.{Desk}
use Rattle.row.specs.Play.{ended}
use Rattle.picture.specs.Drawn.{twins_line}

-- the desk d at the end of a walk over the cards of the UIDs us: all of them answer ("cards Ready, no family")
unfoldable pub Meaning : List ℕ → Desk → Type 0
Meaning us d = Found us d.walk d.list

-- 02, W6: "The bench calls any other UID a bad line.": for UIDs that begin with E0, as every good line's does
unfoldable pub MeaningAlways : Type 0
MeaningAlways = (us : List ℕ) → BeginE0 us → Meaning us (ended us)

-- the picture's line of twins: `twins `, the sixteen digits of a UID that two or more of the cards have, and the line's end
pub record TwinsShown (us : List ℕ) : Type 0 where
  pub uid : ℕ
  pub twice : 2 ≤ times uid us
  pub line : twins_line (ended us) ≡ 0x74 ∷ 0x77 ∷ 0x69 ∷ 0x6e ∷ 0x73 ∷ 0x20 ∷ hex_digits 16 uid ++ 0x0a ∷ []

unfoldable pub TwinsNamed : Type 0
TwinsNamed = (us : List ℕ) → BeginE0 us → (ended us).walk.ending ≡ twins → TwinsShown us
