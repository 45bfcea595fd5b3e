-- Effects and replies that stay within the card's shape: those that the rules decide on for an accepted card.
use Rattle.std.specs.Prelude.{ℕ, ◌+◌, ◌*◌, Bool, true, ◌&&◌, List, ◌≡◌, leb, ltb, length}
use Rattle.card.specs.declared.Card.{Card}
use Rattle.commands.specs.declared.Deed.{Deed}
use Rattle.commands.specs.declared.Effect.{Effect}
use Rattle.commands.specs.declared.Effect.TheVariants.{Leave, Write, Lock}
use Rattle.card.specs.declared.Reply.{Reply}
use Rattle.card.specs.declared.Reply.TheVariants.{Silence, Error, Done, Present, Blocks, Status, Information}

-- the blocks are the card's, and the data stand in the frame
unfoldable pub effect_fits : Card → List ℕ → Effect → Bool
effect_fits c frame Leave = true
effect_fits c frame (Write first n place) = leb (first + n) c.blocks && leb (place + n * c.size) (length frame)
effect_fits c frame (Lock block) = ltb block c.blocks

-- the blocks are the card's
unfoldable pub reply_fits : Card → Reply → Bool
reply_fits c Silence = true
reply_fits c (Error code) = true
reply_fits c Done = true
reply_fits c Present = true
reply_fits c (Blocks first n option) = leb (first + n) c.blocks
reply_fits c (Status first n) = leb (first + n) c.blocks
reply_fits c Information = true

-- what no event changes: shape, UID and IC reference
pub record Kept (card c : Card) : Type 0 where
  pub blocks : c.blocks ≡ card.blocks
  pub size : c.size ≡ card.size
  pub uid : c.uid ≡ card.uid
  pub ic_reference : c.ic_reference ≡ card.ic_reference

-- a deed that stays within the card and within the frame
pub record DeedFits (card : Card) (frame : List ℕ) (d : Deed) : Type 0 where
  pub kept : Kept card d.card
  pub effect : effect_fits card frame d.effect ≡ true
  pub reply : reply_fits card d.reply ≡ true
