-- 02, W3, on two cards: "two cards alike in UID and DSFID count as one there, and twins means alike UID with another DSFID"; and what a walk is told by
-- the decoder's number.
use Rattle.std.specs.Prelude.{ℕ, suc, ◌/◌, ◌^◌, ◌≤◌, ◌<◌, true, List, [], ◌∷◌, ◌≡◌, pos, length, take}
use Rattle.lent.specs.Lent.{refused}
use Rattle.tails.specs.Sum.{times}
use Rattle.walk.specs.Record.{complete, twins}
use Rattle.play.specs.Life.{Tag}
use Rattle.field.specs.Field.{answers}
use Rattle.field.specs.Played.{Play}
use Rattle.field.specs.Found.{listed}
use Rattle.field.specs.Demand.{AllObey}
use Rattle.chorus.specs.Air.{clash, whole, heard_by}
use Rattle.chorus.specs.Demand.{DsfidsFit, on_coil_played}

-- a walk that ends complete in its first round, with one UID
pub record FoundOne (uid : ℕ) (p : Play) : Type 0 where
  pub ending : p.walk.ending ≡ complete
  pub rounds : p.walk.rounds ≡ 1
  pub count : p.walk.count ≡ 1
  pub list : (u : ℕ) → times u (listed p.walk p.list) ≡ times u (uid ∷ [])

pub record CoilFields : Type 0 where
  pub two_alike : (family : ℕ) (a b : Tag) (list room : List ℕ) → AllObey (a ∷ b ∷ []) → DsfidsFit (a ∷ b ∷ []) → 64 ≤ length list → 14 ≤ length room
      → answers family a.card ≡ true → answers family b.card ≡ true → b.card.uid / 2 ^ 56 ≡ 0xe0 → a.card.uid ≡ b.card.uid → a.card.dsfid ≡ b.card.dsfid
      → FoundOne b.card.uid (on_coil_played family list room (a ∷ b ∷ []))
  pub two_dsfids : (family : ℕ) (a b : Tag) (list room : List ℕ) → AllObey (a ∷ b ∷ []) → DsfidsFit (a ∷ b ∷ []) → 64 ≤ length list → 14 ≤ length room
      → answers family a.card ≡ true → answers family b.card ≡ true → b.card.uid / 2 ^ 56 ≡ 0xe0 → a.card.uid ≡ b.card.uid → (a.card.dsfid ≡ b.card.dsfid → ⊥)
      → (on_coil_played family list room (a ∷ b ∷ [])).walk.ending ≡ twins
  -- from 0 to 131,071 an answer's length; a clash or a lost bit; any refusal
  pub answer_told : (n : ℕ) (left : List ℕ) → n < 131072 → heard_by (pos n) left ≡ whole (take n left)
  pub bad_told : (n : ℕ) (left : List ℕ) → 131072 ≤ n → heard_by (pos n) left ≡ clash
  pub refusal_told : (n : ℕ) (left : List ℕ) → heard_by (refused (suc n)) left ≡ clash
