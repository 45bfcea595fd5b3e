-- Demand 3: "a field of cards that obey demand 2 .. One reply arrives whole; two or more in a slot arrive as a clash."
use Rattle.std.specs.Prelude.{ℕ, zero, suc, ◌/◌, ◌%◌, ◌^◌, ◌<◌, Bool, true, false, cond, ◌&&◌, ◌||◌, List, [], ◌∷◌, ◌≡◌, leb, eqb, length, take}
use Rattle.card.specs.declared.Card.{Card}
use Rattle.card.specs.declared.Mode.{Mode}
use Rattle.card.specs.declared.Mode.TheVariants.{Ready, Quiet, Selected}
use Rattle.card.specs.declared.Reply.TheVariants.{Silence}
use Rattle.play.specs.Refusal.{refusal}
use Rattle.play.specs.Events.{Outcome, replied, frame_event, mark_event}
use Rattle.play.specs.Life.{Tag, tag_after}
use Rattle.walk.specs.declared.Kind.{Kind}
use Rattle.walk.specs.declared.Kind.TheVariants as kinds
use Rattle.walk.specs.declared.Send.{Send}
use Rattle.walk.specs.declared.Send.TheVariants.{Nothing, Mark, Request}

-- "cards that obey demand 2": those that a call serves, whose record, memory, lock bytes and room none of the numbers 1 to 4 refuses; a UID has 64
-- bits
pub record Obeys (t : Tag) : Type 0 where
  pub accepted : refusal t.card (length t.memory) t.locks (length t.room) ≡ 0
  pub uid_fits : t.card.uid < 2 ^ 64

-- ---- the cards that answer: said here in full, so that a wrong test in the card can't pass as its own measure

-- 01, The card, step 3: "Quiet, ..: silence". Ready and Selected alike
unfoldable pub listens : Mode → Bool
listens Ready = true
listens Quiet = false
listens Selected = true

-- 02, W2: "By ISO/IEC 15693-3, Table 1, an asked AFI with a high digit and a zero low digit matches every card with that high digit; 00 matches all;
-- any other matches only itself": the table's rows 0 0, X 0, X Y and 0 Y, by the two digits asked; then the card's two
unfoldable pub table_one : ℕ → ℕ → ℕ → ℕ → Bool
table_one zero zero high low = true
table_one (suc x) zero high low = eqb (suc x) high
table_one (suc x) (suc y) high low = eqb (suc x) high && eqb (suc y) low
table_one zero (suc y) high low = eqb zero high && eqb (suc y) low

-- 02, W2: "Demands 2 and 3 read 'its family' by this rule." A family from 256 on is none
unfoldable pub family_fits : ℕ → ℕ → Bool
family_fits family afi = leb 256 family || table_one (family / 16) (family % 16) (afi / 16) (afi % 16)

unfoldable pub answers : ℕ → Card → Bool
answers family c = listens c.mode && family_fits family c.afi

-- the UIDs of the cards that answer a family
unfoldable pub answering : ℕ → List Tag → List ℕ
answering family [] = []
answering family (t ∷ ts) = cond (answers family t.card) (t.card.uid ∷ answering family ts) (answering family ts)

-- what is sent reaches a card: a request of n bytes, a slot mark, or nothing
unfoldable pub reached : Send → List ℕ → Tag → Outcome
reached Nothing sent t = replied t.card t.memory t.locks Silence t.room
reached Mark sent t = mark_event t.card t.memory t.locks t.room
reached (Request n) sent t = frame_event t.card (take n sent) t.memory t.locks t.room

-- all cards after it
unfoldable pub tags_after : Send → List ℕ → List Tag → List Tag
tags_after send sent [] = []
tags_after send sent (t ∷ ts) = tag_after (reached send sent t) ∷ tags_after send sent ts

-- the answers of those that are not silent
unfoldable pub replies : Send → List ℕ → List Tag → List (List ℕ)
replies send sent [] = []
replies send sent (t ∷ ts) =
    let o : Outcome = reached send sent t in
    cond (eqb o.told 0) (replies send sent ts) (take o.told o.answer ∷ replies send sent ts)

-- what arrives in a slot: a kind, and bytes that are looked at where it is the third
pub record Arrival : Type 0 where
  pub kind : Kind
  pub bytes : List ℕ

-- "One reply arrives whole; two or more in a slot arrive as a clash."
unfoldable pub arrives : List (List ℕ) → Arrival
arrives [] = record { kind = kinds.Silence; bytes = [] }
arrives (r ∷ []) = record { kind = kinds.Bytes; bytes = r }
arrives (r ∷ s ∷ rs) = record { kind = kinds.Clash; bytes = [] }
