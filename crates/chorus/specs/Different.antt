-- 02, W3: "on the coil demand 3 counts different answers and not cards: two cards alike in UID and DSFID count as one there".
use Rattle.std.specs.Prelude.{ℕ, ◌+◌, Bool, true, false, cond, ◌&&◌, ◌||◌, List, [], ◌∷◌, ◌≡◌, eqb}
use Rattle.card.specs.declared.Card.{Card}
use Rattle.play.specs.Life.{Tag}
use Rattle.field.specs.Field.{answers}

-- what a card's answer to an inventory says. 01: "Answer: 00, DSFID, UID, check."
pub record Said : Type 0 where
  pub uid : ℕ
  pub dsfid : ℕ

abbrev pub said : Card → Said
said c = record { uid = c.uid; dsfid = c.dsfid }

-- "alike in UID and DSFID"
unfoldable pub alike : Said → Said → Bool
alike a b = eqb a.uid b.uid && eqb a.dsfid b.dsfid

-- what the cards say that answer a family, a card after the other
unfoldable pub said_by : ℕ → List Tag → List Said
said_by family [] = []
said_by family (t ∷ ts) = cond (answers family t.card) (said t.card ∷ said_by family ts) (said_by family ts)

unfoldable pub is_among : Said → List Said → Bool
is_among a [] = false
is_among a (b ∷ bs) = alike a b || is_among a bs

-- each once
unfoldable pub distinct : List Said → List Said
distinct [] = []
distinct (a ∷ rest) = cond (is_among a rest) (distinct rest) (a ∷ distinct rest)

-- the different answers of the cards that answer a family, and their UIDs
unfoldable pub different_answers : ℕ → List Tag → List Said
different_answers family tags = distinct (said_by family tags)

unfoldable pub uids_of : List Said → List ℕ
uids_of [] = []
uids_of (a ∷ rest) = a.uid ∷ uids_of rest

-- ---- that "each once" is right

-- some card of a field answers the family, and says a
pub data Speaks (family : ℕ) (a : Said) : List Tag → Type 0 where
  here : {t : Tag} {ts : List Tag} → answers family t.card ≡ true → said t.card ≡ a → Speaks family a (t ∷ ts)
  there : {t : Tag} {ts : List Tag} → Speaks family a ts → Speaks family a (t ∷ ts)

-- how often an answer stands in a list
unfoldable pub times_said : Said → List Said → ℕ
times_said a [] = 0
times_said a (b ∷ rest) = cond (alike a b) 1 0 + times_said a rest

pub record EachOnce : Type 0 where
  pub once : (family : ℕ) (tags : List Tag) (a : Said) → Speaks family a tags → times_said a (different_answers family tags) ≡ 1
  pub only : (family : ℕ) (tags : List Tag) (a : Said) → (Speaks family a tags → ⊥) → times_said a (different_answers family tags) ≡ 0
