-- Which cards a record of forty bytes holds.
use Rattle.std.specs.Prelude.{ℕ, ◌^◌, ◌≤◌, ◌<◌, ◌≡◌}
use Rattle.card.specs.declared.Card.{Card}
use Rattle.card.specs.declared.Held.TheVariants.{Code}
use Rattle.record.specs.Record.{fields_of}

-- the numbers fit their fields; the bytes 0 and 1 hold no code
pub record Fits (c : Card) : Type 0 where
  pub uid : c.uid < 256 ^ 8
  pub blocks : c.blocks < 256 ^ 4
  pub size : c.size < 256 ^ 4
  pub mask : (fields_of c.sequence).mask < 256 ^ 8
  pub code : (code : ℕ) → c.held ≡ Code code → 2 ≤ code
