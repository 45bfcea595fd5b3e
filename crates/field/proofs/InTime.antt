-- A card that hears the walk is where the walk is: what it becomes at each slot, as a function of the card as it stood at first.
-- Definitions that the proofs of demand 3 share. Assumes nothing.
use Prim.Native.Nat.{ℕ, zero, suc}
use mathlib.Core.Bool.{Bool, true, cond, ◌&&◌}
use mathlib.Core.List.{List, [], ◌∷◌}
use mathlib.Core.Path.{◌≡◌}
use lib.ListN.{length}
use Rattle.card.specs.declared.Card.{Card}
use Rattle.card.specs.declared.Sequence.TheVariants.{Running}
use Rattle.card.specs.Record.{is_accepted, cleared, in_sequence}
use Rattle.slots.specs.Fits.{fits_slot}
use Rattle.walk.specs.declared.Walk.{Walk}
use Rattle.walk.specs.Record.{mask_length, whole_mask}
use Rattle.play.specs.Life.{Tag}
use Rattle.field.specs.Field.{answers}

-- the card c of the start, in slot s of a round
unfoldable pub in_step : ℕ → ℕ → ℕ → ℕ → Card → Card
in_step family level mask s c = cond (answers family c) (in_sequence (Running s (mask_length level) mask) (cleared c)) (cleared c)

-- the card answers the walk's slot
unfoldable pub calls : ℕ → Walk → Card → Bool
calls family w c = answers family c && fits_slot c.uid (mask_length w.level) (whole_mask w) w.slot

-- a tag t that was t₀ at the start: between two rounds, its sequence and held answer are anything
pub record Follows (t₀ t : Tag) : Type 0 where
  pub card : cleared t.card ≡ cleared t₀.card
  pub memory : t.memory ≡ t₀.memory
  pub locks : t.locks ≡ t₀.locks
  pub room : length t.room ≡ length t₀.room
  pub accepted : is_accepted t.card ≡ true

-- and in slot s
pub record AtSlot (family level mask s : ℕ) (t₀ t : Tag) : Type 0 where
  pub card : t.card ≡ in_step family level mask s t₀.card
  pub memory : t.memory ≡ t₀.memory
  pub locks : t.locks ≡ t₀.locks
  pub room : length t.room ≡ length t₀.room

-- the same of each pair of two rows
pub data Both (P : Tag → Tag → Type 0) : List Tag → List Tag → Type 0 where
  none : Both P [] []
  more : {t₀ t : Tag} {ts₀ ts : List Tag} → P t₀ t → Both P ts₀ ts → Both P (t₀ ∷ ts₀) (t ∷ ts)

-- a row before slot s of a round is heard: the request, or the mark, is still to come
unfoldable pub Before : ℕ → ℕ → ℕ → ℕ → List Tag → List Tag → Type 0
Before family level mask zero ts₀ ts = Both Follows ts₀ ts
Before family level mask (suc s) ts₀ ts = Both (AtSlot family level mask s) ts₀ ts
