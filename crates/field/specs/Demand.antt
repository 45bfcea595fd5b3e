-- Demand 3, as 02, W6, has it: a fresh walk over a field of cards, and what it leaves of them.
use Rattle.std.specs.Prelude.{ℕ, suc, ◌+◌, ◌*◌, ◌≤◌, true, false, cond, List, [], ◌∷◌, ◌≡◌, length}
use Rattle.card.specs.declared.Card.{Card}
use Rattle.card.specs.declared.Sequence.TheVariants.{Running}
use Rattle.card.specs.Record.{cleared, in_sequence}
use Rattle.walk.specs.declared.Walk.{Walk}
use Rattle.walk.specs.Record.{mask_length, whole_mask, is_running}
use Rattle.play.specs.Life.{Tag}
use Rattle.field.specs.Field.{Obeys, answers, answering}
use Rattle.field.specs.Played.{Play, played_for, fresh}
use Rattle.field.specs.Found.{BeginE0, FoundIn}

-- every card of a field obeys
pub data AllObey : List Tag → Type 0 where
  none : AllObey []
  more : {t : Tag} {ts : List Tag} → Obeys t → AllObey ts → AllObey (t ∷ ts)

-- a card that takes part has a sequence with the walk's own mask length, mask and slot, any other has none; no answer is held
unfoldable pub card_left : ℕ → Walk → Card → Card
card_left family w c = cond (answers family c) (in_sequence (Running w.slot (mask_length w.level) (whole_mask w)) (cleared c)) (cleared c)

unfoldable pub cards_left : ℕ → Walk → List Tag → List Card
cards_left family w [] = []
cards_left family w (t ∷ ts) = card_left family w t.card ∷ cards_left family w ts

unfoldable pub cards : List Tag → List Card
cards [] = []
cards (t ∷ ts) = t.card ∷ cards ts

unfoldable pub memories : List Tag → List (List ℕ)
memories [] = []
memories (t ∷ ts) = t.memory ∷ memories ts

unfoldable pub lock_bytes : List Tag → List (List ℕ)
lock_bytes [] = []
lock_bytes (t ∷ ts) = t.locks ∷ lock_bytes ts

-- the end of a walk p over the cards tags, us being the UIDs that count: in demand 3 those of the cards that answer its family. The tails
-- that count have at most so many digits
pub record Demand3In (digits family : ℕ) (tags : List Tag) (us : List ℕ) (p : Play) : Type 0 where
  pub found : FoundIn digits us p.walk p.list
  -- the cards keep all but sequence and held answer
  pub cards_left : cards p.tags ≡ cards_left family p.walk tags
  pub memories_left : memories p.tags ≡ memories tags
  pub locks_left : lock_bytes p.tags ≡ lock_bytes tags

-- 02, W6: "tails of 1 to 13 digits": the first part is `Found us`
abbrev pub Demand3 : ℕ → List Tag → List ℕ → Play → Type 0
Demand3 family tags us p = Demand3In 13 family tags us p

-- 02, W6: "demand 3 takes 'every answering UID begins with E0' as a premise". It gives the walk no number of slots to end in. Ours is 16 × 417: 16
-- slots for each round that a walk may have
unfoldable pub Demand3Always : Type 0
Demand3Always =
    (family : ℕ) (tags : List Tag) (list room : List ℕ) → AllObey tags → BeginE0 (answering family tags) → 64 ≤ length list → 14 ≤ length room
    → Demand3 family tags (answering family tags) (played_for (16 * 417) (fresh family list room tags))

-- 01, Form by location: "The round count stands in the walk and equals the rounds of the definition." A round has sixteen slots and the first is round
-- 1: after n slots a walk that still runs is in the round and in the slot that n gives
unfoldable pub RoundsCounted : Type 0
RoundsCounted =
    (family : ℕ) (tags : List Tag) (list room : List ℕ) → AllObey tags → 64 ≤ length list → 14 ≤ length room → (n : ℕ)
    → let w : Walk = (played_for n (fresh family list room tags)).walk in
    is_running w ≡ true → 16 * w.rounds + w.slot ≡ 16 + n

-- 01: "An ending changes only the ending itself: .. rounds stay as that slot found them": whatever the ending, the rounds are those that were played
unfoldable pub RoundsKept : Type 0
RoundsKept =
    (family : ℕ) (tags : List Tag) (list room : List ℕ) → AllObey tags → 64 ≤ length list → 14 ≤ length room → (n : ℕ)
    → is_running (played_for (suc n) (fresh family list room tags)).walk ≡ false
    → (played_for (suc n) (fresh family list room tags)).walk.rounds ≡ (played_for n (fresh family list room tags)).walk.rounds
