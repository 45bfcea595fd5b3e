-- The number of the refusal is 0 exactly if all four tests pass. By cases on the tests. Assumes nothing.
use mathlib.Core.Path.{◌≡◌, refl}
use mathlib.Core.Bool.{Bool, true, false, cond}
use Prim.Native.Nat.{ℕ}
use native.Mathlib.Omega.{arith}
use mathlib.Core.List.{List}
use lib.ListN.{length}
use Rattle.card.specs.declared.Card.{Card}
use Rattle.card.specs.Record.{is_accepted}
use Rattle.play.specs.Refusal.{lengths_fit, locks_fit, room_fits, refusal}

pub record Passes (c : Card) (memory : ℕ) (locks : List ℕ) (room : ℕ) : Type 0 where
  pub accepted : is_accepted c ≡ true
  pub lengths : lengths_fit c memory (length locks) ≡ true
  pub marks : locks_fit locks ≡ true
  pub space : room_fits c room ≡ true

module _ (c : Card) (memory : ℕ) (locks : List ℕ) (room : ℕ) where
  pub passes_of : refusal c memory locks room ≡ 0 → Passes c memory locks room
  unfolding refusal
  passes_of h = go (is_accepted c) (lengths_fit c memory (length locks)) (locks_fit locks) (room_fits c room) refl refl refl refl h
    where
      go : (a b d e : Bool) → is_accepted c ≡ a → lengths_fit c memory (length locks) ≡ b → locks_fit locks ≡ d → room_fits c room ≡ e
          → ◌≡◌ {A = ℕ} (cond a (cond b (cond d (cond e 0 4) 3) 2) 1) 0 → Passes c memory locks room
      go true true true true p q r s h = record { accepted = p; lengths = q; marks = r; space = s }
      go true true true false p q r s h = absurd (omega arith)
      go true true false e p q r s h = absurd (omega arith)
      go true false d e p q r s h = absurd (omega arith)
      go false b d e p q r s h = absurd (omega arith)

  pub refusal_none : Passes c memory locks room → refusal c memory locks room ≡ 0
  unfolding refusal
  refusal_none p = rw (p.accepted, p.lengths, p.marks, p.space)
