-- What effects and replies that fit say of their blocks. By the tests of the definitions. Assumes nothing.
use mathlib.Core.Path.{◌≡◌}
use mathlib.Core.Bool.{Bool, true, and-eq-true_iff}
use mathlib.Core.List.{List}
use Prim.Native.Nat.{ℕ, ◌+◌, ◌*◌, ◌≤◌, ◌<◌}
use native.Mathlib.Nat.{mul-le-mul_right}
use borrow.Author.Tests.{leb-true, ltb-true}
use lib.Dec.{leb}
use lib.ListN.{length}
use Rattle.card.specs.declared.Card.{Card}
use Rattle.commands.specs.declared.Effect.{Effect}
use Rattle.commands.specs.declared.Effect.TheVariants.{Write, Lock}
use Rattle.card.specs.declared.Reply.{Reply}
use Rattle.card.specs.declared.Reply.TheVariants.{Blocks, Status}
use Rattle.play.specs.Fits.{effect_fits, reply_fits}

-- a write has its blocks in memory and its data in the frame
pub record Written (c : Card) (frame : List ℕ) (first n place : ℕ) : Type 0 where
  pub inside : (first + n) * c.size ≤ c.blocks * c.size
  pub source : place + n * c.size ≤ length frame

pub write_within : {c : Card} {frame : List ℕ} {e : Effect} {first n place : ℕ} → e ≡ Write first n place → effect_fits c frame e ≡ true
    → Written c frame first n place
unfolding effect_fits
write_within {c} {frame} {e} {first} {n} {place} is fits =
    let both = (and-eq-true_iff (leb (first + n) c.blocks) (leb (place + n * c.size) (length frame))).0 (rw is at fits) in
    record {
      inside = mul-le-mul_right c.size (leb-true (first + n) c.blocks both.0);
      source = leb-true (place + n * c.size) (length frame) both.1;
    }

-- a lock has its block among the lock bytes
pub lock_within : (c : Card) (frame : List ℕ) {e : Effect} {block : ℕ} → e ≡ Lock block → effect_fits c frame e ≡ true → block < c.blocks
unfolding effect_fits
lock_within c frame {e} {block} is fits = ltb-true block c.blocks (rw is at fits)

-- blocks that are read are the card's
pub blocks_within : (c : Card) {reply : Reply} {first n : ℕ} {option : Bool} → reply ≡ Blocks first n option → reply_fits c reply ≡ true
    → first + n ≤ c.blocks
unfolding reply_fits
blocks_within c {reply} {first} {n} is fits = leb-true (first + n) c.blocks (rw is at fits)

pub status_within : (c : Card) {reply : Reply} {first n : ℕ} → reply ≡ Status first n → reply_fits c reply ≡ true
    → first + n ≤ c.blocks
unfolding reply_fits
status_within c {reply} {first} {n} is fits = leb-true (first + n) c.blocks (rw is at fits)
