-- What a sign of the picture says of the walk, and of the UIDs of the input.
use Rattle.std.specs.Prelude.{ℕ, suc, ◌+◌, ◌*◌, ◌^◌, true, cond, List, ◌≡◌, eqb, length}
use Rattle.tails.specs.Tails.{ending}
use Rattle.walk.specs.declared.Walk.{Walk}
use Rattle.walk.specs.declared.Slot.{Slot}
use Rattle.walk.specs.declared.Slot.TheVariants.{Silent, Clashed, Clean}
use Rattle.walk.specs.Record.{whole_mask, is_running}
use Rattle.walk.specs.Hear.{judged}
use Rattle.field.specs.Found.{BeginE0}
use Rattle.row.specs.declared.Air.{Air}
use Rattle.row.specs.Row.{Played, still_air, row_air, air_kind, air_bytes, cards_of, played_for}
use Rattle.row.specs.Play.{fresh_desk}
use Rattle.picture.specs.Drawn.{sign}

-- silent, clean or clash: . o #
unfoldable pub sign_of : Slot → ℕ
sign_of Silent = 0x2e
sign_of (Clean uid) = 0x6f
sign_of Clashed = 0x23

-- none, one, two or more
unfoldable pub sign_for : ℕ → ℕ
sign_for n = cond (eqb n 0) 0x2e (cond (eqb n 1) 0x6f 0x23)

-- what is in the air of the slot that p comes to
unfoldable pub air_at : Played → Air
air_at p = row_air p.desk.walk still_air p.row

-- the UIDs that the slot calls: their last digits are the slot's above the mask
unfoldable pub called_at : List ℕ → Walk → List ℕ
called_at us w = ending (suc w.level) (whole_mask w + w.slot * 16 ^ w.level) us

-- the sign of a slot that is heard
pub record Signs (us : List ℕ) (p : Played) : Type 0 where
  pub walk : sign (air_at p) ≡ sign_of (judged p.desk.walk (air_kind (air_at p)) (air_bytes (air_at p)))
  pub uids : sign (air_at p) ≡ sign_for (length (called_at us p.desk.walk))

-- for UIDs that begin with E0, as every good line's does, after any number of slots
unfoldable pub SignsAlways : Type 0
SignsAlways =
    (us : List ℕ) → BeginE0 us → (n : ℕ)
    → is_running (played_for n (record { desk = fresh_desk; row = cards_of us })).desk.walk ≡ true
    → Signs us (played_for n (record { desk = fresh_desk; row = cards_of us }))
