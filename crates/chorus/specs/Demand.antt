-- Demand 3 on the coil. 02, W3: "So on the coil demand 3 counts different answers and not cards: two cards alike in UID and DSFID count as one there, and
-- twins means alike UID with another DSFID. The bench keeps its own rule."
use Rattle.std.specs.Prelude.{ℕ, ◌*◌, ◌≤◌, ◌<◌, List, [], ◌∷◌, ◌≡◌, length}
use Rattle.walk.specs.declared.Walk.{Walk}
use Rattle.walk.specs.Record.{complete, twins}
use Rattle.play.specs.Life.{Tag}
use Rattle.field.specs.Field.{answering}
use Rattle.field.specs.Played.{Play, played_for_by, fresh}
use Rattle.field.specs.Found.{BeginE0}
use Rattle.field.specs.Demand.{AllObey, Demand3}
use Rattle.field.specs.Foreign.{FoundAny}
use Rattle.chorus.specs.Air.{coil_air}
use Rattle.chorus.specs.Different.{different_answers, uids_of, Speaks}

-- every card's DSFID is a byte
pub data DsfidsFit : List Tag → Type 0 where
  none : DsfidsFit []
  more : {t : Tag} {ts : List Tag} → t.card.dsfid < 256 → DsfidsFit ts → DsfidsFit (t ∷ ts)

-- a fresh walk of a family over cards on the coil, at its end
unfoldable pub on_coil_played : ℕ → List ℕ → List ℕ → List Tag → Play
on_coil_played family list room tags = played_for_by coil_air (16 * 417) (fresh family list room tags)

-- demand 3 word for word, of the UIDs of the different answers; 02, W6: "every answering UID begins with E0"
unfoldable pub CoilDemand3 : Type 0
CoilDemand3 =
    (family : ℕ) (tags : List Tag) (list room : List ℕ) → AllObey tags → DsfidsFit tags → BeginE0 (answering family tags) → 64 ≤ length list
    → 14 ≤ length room
    → Demand3 family tags (uids_of (different_answers family tags)) (on_coil_played family list room tags)

-- and without that premise, of UIDs that begin with anything
unfoldable pub CoilAnyUids : Type 0
CoilAnyUids =
    (family : ℕ) (tags : List Tag) (list room : List ℕ) → AllObey tags → DsfidsFit tags → 64 ≤ length list → 14 ≤ length room
    → let p : Play = on_coil_played family list room tags in
    FoundAny (uids_of (different_answers family tags)) p.walk p.list

-- "twins means alike UID with another DSFID": two cards that answer say one UID and different DSFIDs
pub record UnlikeTwins (family : ℕ) (tags : List Tag) : Type 0 where
  pub uid : ℕ
  pub one : ℕ
  pub other : ℕ
  pub one_speaks : Speaks family (record { uid = uid; dsfid = one }) tags
  pub other_speaks : Speaks family (record { uid = uid; dsfid = other }) tags
  pub differ : one ≡ other → ⊥

-- what an ending means of the cards, the walk being at its end
pub record TwinsMean (family : ℕ) (tags : List Tag) (w : Walk) : Type 0 where
  pub twins_differ : w.ending ≡ twins → UnlikeTwins family tags
  -- with at most 64 different answers they always end it so
  pub differ_twins : length (different_answers family tags) ≤ 64 → UnlikeTwins family tags → w.ending ≡ twins
  -- and where there are none it ends complete: cards alike in both do no harm
  pub else_completes : length (different_answers family tags) ≤ 64 → (UnlikeTwins family tags → ⊥) → w.ending ≡ complete

unfoldable pub CoilTwins : Type 0
CoilTwins =
    (family : ℕ) (tags : List Tag) (list room : List ℕ) → AllObey tags → DsfidsFit tags → BeginE0 (answering family tags) → 64 ≤ length list
    → 14 ≤ length room
    → TwinsMean family tags (on_coil_played family list room tags).walk
