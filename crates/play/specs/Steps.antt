-- Steps of private functions: nothing here has to be held against the rules page.
use Rattle.std.specs.Prelude.{ℕ, ◌+◌, ◌*◌, ◌≤◌, Bool, true, false, cond, List, ◌≡◌, eqb, length, take}
use Rattle.lent.specs.Lent.{over}
use Rattle.lent.specs.Puts.{Puts}
use Rattle.crc.specs.Check.{sealed}
use Rattle.card.specs.declared.Card.{Card}
use Rattle.card.specs.declared.Reply.{Reply}
use Rattle.card.specs.declared.Reply.TheVariants.{Silence, Error, Done, Present, Blocks, Status, Information}
use Rattle.card.specs.Record.{shape_fits}
use Rattle.commands.specs.declared.Deed.{Deed}
use Rattle.play.specs.Refusal.{room_fits}
use Rattle.play.specs.Fits.{effect_fits, reply_fits}

-- the replies that neither memory nor lock bytes enter, and not the shape
unfoldable pub is_brief : Reply → Bool
is_brief Silence = true
is_brief (Error code) = true
is_brief Done = true
is_brief Present = true
is_brief (Blocks first n option) = false
is_brief (Status first n) = false
is_brief Information = false

-- what a call that is served counts on: the shape, and memory, lock bytes and room of the lengths that it asks for
pub record Ready (c : Card) (memory locks room : ℕ) : Type 0 where
  pub shape : shape_fits c.blocks c.size ≡ true
  pub stored : memory ≡ c.blocks * c.size
  pub marks : locks ≡ c.blocks
  pub fits : room_fits c room ≡ true

-- and the deed of a frame that it carries out
pub record DeedReady (frame : List ℕ) (d : Deed) (memory locks room : ℕ) : Type 0 where
  pub ready : Ready d.card memory locks room
  pub effect : effect_fits d.card frame d.effect ≡ true
  pub reply : reply_fits d.card d.reply ≡ true

-- what the functions that put a whole reply promise: its bytes at the start of the buffer, with room for the check behind them
pub record PutsReply (bytes buffer : List ℕ) (r : ℕ) (left : List ℕ) : Type 0 where
  pub puts : Puts bytes buffer r left
  pub room : r + 2 ≤ length buffer

-- what `finish` promises for n bytes at the start of a buffer: nothing for none, else their length with the check, which is appended
pub record Finishes (n : ℕ) (buffer : List ℕ) (r : ℕ) (left : List ℕ) : Type 0 where
  pub told : r ≡ cond (eqb n 0) 0 (n + 2)
  pub leaves : left ≡ cond (eqb n 0) buffer (over (sealed (take n buffer)) buffer)
