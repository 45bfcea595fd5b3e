-- What numbers 1 to 4 leave of a card that they accept: its shape, and the lengths of memory and lock bytes. By the tests of the definitions. Assumes nothing.
use mathlib.Core.Path.{◌≡◌, refl}
use mathlib.Core.Bool.{Bool, true, false, cond, ◌&&◌, and-eq-true_iff}
use mathlib.Core.List.{List}
use Prim.Native.Nat.{ℕ, ◌*◌, ◌≤◌}
use native.Mathlib.Omega.{arith}
use borrow.Author.Tests.{eqb-true, leb-true}
use lib.Dec.{leb, eqb}
use lib.ListN.{length}
use Rattle.card.specs.declared.Card.{Card}
use Rattle.card.specs.Record.{shape_fits, sequence_fits, held_fits, is_accepted}
use Rattle.play.specs.Refusal.{lengths_fit, refusal, Accepted}

pub record Ready (c : Card) (memory locks : List ℕ) : Type 0 where
  pub some_blocks : 1 ≤ c.blocks
  pub some_size : 1 ≤ c.size
  pub stored : length memory ≡ c.blocks * c.size
  pub marks : length locks ≡ c.blocks

module _ (c : Card) (memory locks found : List ℕ) where
  passed : is_accepted c ≡ true → lengths_fit c (length memory) (length locks) ≡ true → Ready c memory locks
  unfolding is_accepted shape_fits lengths_fit
  passed a l =
      let shape = ((and-eq-true_iff (shape_fits c.blocks c.size) (sequence_fits c.sequence && held_fits c.held)).0 a).0 in
      let some = (and-eq-true_iff (leb 1 c.blocks) (leb c.blocks 256 && (leb 1 c.size && leb c.size 32))).0 shape in
      let most = (and-eq-true_iff (leb c.blocks 256) (leb 1 c.size && leb c.size 32)).0 some.1 in
      let sized = (and-eq-true_iff (leb 1 c.size) (leb c.size 32)).0 most.1 in
      let both = (and-eq-true_iff (eqb (length memory) (c.blocks * c.size)) (eqb (length locks) c.blocks)).0 l in
      record {
        some_blocks = leb-true 1 c.blocks some.0;
        some_size = leb-true 1 c.size sized.0;
        stored = eqb-true (length memory) (c.blocks * c.size) both.0;
        marks = eqb-true (length locks) c.blocks both.1;
      }

  pub ready_of : Accepted c memory locks found → Ready c memory locks
  unfolding refusal
  ready_of e = go (is_accepted c) (lengths_fit c (length memory) (length locks)) _ refl refl e
    where
      go : (a l : Bool) (rest : ℕ) → is_accepted c ≡ a → lengths_fit c (length memory) (length locks) ≡ l → ◌≡◌ {A = ℕ} (cond a (cond l rest 2) 1) 0
          → Ready c memory locks
      go true true rest p q h = passed p q
      go true false rest p q h = absurd (omega arith)
      go false l rest p q h = absurd (omega arith)
