-- Where a request finds no fault, and which requests hold their answer: what follows for the blocks that it asks for, and what they show. By the tests of the
-- definitions. Assumes nothing.
use mathlib.Core.Path.{◌≡◌, refl, sym}
use mathlib.Core.Bool.{Bool, true, false, cond, ◌&&◌, ◌||◌, false≢true, and-eq-true_iff}
use mathlib.Core.List.{List, []}
use Prim.Native.Nat.{ℕ, ◌≤◌, ◌<◌}
use native.Mathlib.Omega.{arith}
use borrow.Author.Tests.{eqb-true, ne_eqb, leb-true, leb-false}
use lib.Dec.{leb, eqb}
use Rattle.card.specs.declared.Card.{Card}
use Rattle.card.specs.declared.Reply.{Reply}
use Rattle.card.specs.declared.Reply.TheVariants as reply
use Rattle.reader.specs.declared.Request.{Request}
use Rattle.reader.specs.declared.Reading.TheVariants.{Done}
use Rattle.reader.specs.Request.{has_option}
use Rattle.reader.specs.Shown.{is_held, mistakes_option, is_outside, code_of, reading_held, bytes_held, marks_held}
use Rattle.reader.proofs.Asked.{reply_to}
use Rattle.reader.proofs.Kept.{Kept, either_holds}
use Rattle.reader.proofs.Spoken.{speaks}

-- ---- no fault

pub inside_of : (c : Card) (locks : List ℕ) (q : Request) → code_of c locks q ≡ 0 → is_outside c q ≡ false
unfolding code_of
inside_of c locks q e = go (mistakes_option q) (is_outside c q) _ e
  where
    go : (a b : Bool) (rest : ℕ) → ◌≡◌ {A = ℕ} (cond a 0x03 (cond b 0x10 rest)) 0 → b ≡ false
    go true b rest h = absurd (omega arith)
    go false true rest h = absurd (omega arith)
    go false false rest h = refl

pub inside_kept : (c d : Card) (q : Request) → Kept c d → is_outside c q ≡ false → is_outside d q ≡ false
unfolding is_outside
inside_kept c d q same e = rw same.blocks e

-- 21: its block is the card's
pub first_inside : (c : Card) (q : Request) → q.command ≡ 0x21 → is_outside c q ≡ false → q.first < c.blocks
unfolding is_outside
first_inside c q is e = go (leb c.blocks q.first) refl (rw is at e)
  where
    go : (b : Bool) → leb c.blocks q.first ≡ b → b ≡ false → q.first < c.blocks
    go true t h = absurd (false≢true (sym h))
    go false t h = leb-false c.blocks q.first t

-- ---- a reply has bytes

pub reply_speaks : (q : Request) → speaks (reply_to q) ≡ true
unfolding reply_to speaks
reply_speaks q =
    either_holds (λ (r : Reply). speaks r ≡ true) (eqb q.command 0x20) _ _ refl
    (either_holds (λ (r : Reply). speaks r ≡ true) (eqb q.command 0x23) _ _ refl
    (either_holds (λ (r : Reply). speaks r ≡ true) (eqb q.command 0x2b) _ _ refl
    (either_holds (λ (r : Reply). speaks r ≡ true) (eqb q.command 0x2c) _ _ refl refl)))

-- ---- held answers

-- a command that holds its answer shows nothing but success
record Other (q : Request) : Type 0 where
  no_20 : eqb q.command 0x20 ≡ false
  no_23 : eqb q.command 0x23 ≡ false
  no_2b : eqb q.command 0x2b ≡ false
  no_2c : eqb q.command 0x2c ≡ false

other_command : (q : Request) → is_held q ≡ true → Other q
unfolding is_held
other_command q e =
    let held = ((and-eq-true_iff (has_option q) (eqb q.command 0x21 || (eqb q.command 0x22 || (leb 0x27 q.command && leb q.command 0x2a)))).0 e).1 in
    go (eqb q.command 0x21) (eqb q.command 0x22) (leb 0x27 q.command) (leb q.command 0x2a) refl refl refl refl held
  where
    none : (q.command ≡ 0x20 → ⊥) → (q.command ≡ 0x23 → ⊥) → (q.command ≡ 0x2b → ⊥) → (q.command ≡ 0x2c → ⊥) → Other q
    none a b d f =
        record {
          no_20 = ne_eqb q.command 0x20 a;
          no_23 = ne_eqb q.command 0x23 b;
          no_2b = ne_eqb q.command 0x2b d;
          no_2c = ne_eqb q.command 0x2c f;
        }

    go : (a b d f : Bool) → eqb q.command 0x21 ≡ a → eqb q.command 0x22 ≡ b → leb 0x27 q.command ≡ d → leb q.command 0x2a ≡ f
        → (a || (b || (d && f))) ≡ true → Other q
    go true b d f p r s t h =
        let is : q.command ≡ 0x21 = eqb-true q.command 0x21 p in
        none (λ x. omega arith) (λ x. omega arith) (λ x. omega arith) (λ x. omega arith)
    go false true d f p r s t h =
        let is : q.command ≡ 0x22 = eqb-true q.command 0x22 r in
        none (λ x. omega arith) (λ x. omega arith) (λ x. omega arith) (λ x. omega arith)
    go false false true true p r s t h =
        let least : 0x27 ≤ q.command = leb-true 0x27 q.command s in
        let most : q.command ≤ 0x2a = leb-true q.command 0x2a t in
        none (λ x. omega arith) (λ x. omega arith) (λ x. omega arith) (λ x. omega arith)
    go false false true false p r s t h = absurd (false≢true h)
    go false false false f p r s t h = absurd (false≢true h)

module _ (q : Request) (held : is_held q ≡ true) where
  pub held_done : reply_to q ≡ reply.Done
  unfolding reply_to
  held_done =
      let o = other_command q held in
      rw (o.no_20, o.no_23, o.no_2b, o.no_2c)

  pub held_reading : (c : Card) → reading_held c q ≡ Done
  unfolding reading_held
  held_reading c =
      let o = other_command q held in
      rw (o.no_20, o.no_23, o.no_2b, o.no_2c)

  pub held_bytes : (memory : List ℕ) → bytes_held memory q ≡ []
  unfolding bytes_held
  held_bytes memory =
      let o = other_command q held in
      rw (o.no_20, o.no_23)

  pub held_marks : (locks : List ℕ) → marks_held locks q ≡ []
  unfolding marks_held
  held_marks locks =
      let o = other_command q held in
      rw (o.no_20, o.no_23, o.no_2c)
