-- Laws of a list of owner marks where those of a rack are freed: mark by mark, and how many there are then. By induction over the list.
-- Assumes nothing.
use mathlib.Core.Path.{◌≡◌, refl, sym, ap, ◌∙◌}
use mathlib.Core.Bool.{Bool, true, false, cond}
use mathlib.Core.List.{List, [], ◌∷◌, ◌++◌}
use Prim.Native.Nat.{ℕ, zero, suc, ◌+◌, ◌<◌}
use native.Mathlib.Omega.{arith}
use borrow.Author.Tests.{eqb-true, eqb-false}
use lib.Dec.{eqb}
use lib.ListN.{length, get_or}
use Rattle.tails.specs.Sum.{one, tally, times}
use Rattle.walk.specs.Shared.{are_marks, freed_of}
use Rattle.walk.proofs.MarkLists.{one_same, one_other, is_mark, are_marks_cons, are_marks_parts}

pub length_freed_of : (rack : ℕ) (ms : List ℕ) → length (freed_of rack ms) ≡ length ms
unfolding freed_of
length_freed_of rack [] = refl
length_freed_of rack (m ∷ ms) = ap suc (length_freed_of rack ms)

pub freed_of_append : (rack : ℕ) (s t : List ℕ) → freed_of rack (s ++ t) ≡ freed_of rack s ++ freed_of rack t
unfolding freed_of
freed_of_append rack [] t = refl
freed_of_append rack (m ∷ s) t = ap (λ (l : List ℕ). cond (eqb m rack) 255 m ∷ l) (freed_of_append rack s t)

pub freed_of_get : (rack : ℕ) (ms : List ℕ) (i : ℕ) → i < length ms
    → get_or (freed_of rack ms) i 0 ≡ cond (eqb (get_or ms i 0) rack) 255 (get_or ms i 0)
unfolding freed_of
freed_of_get rack [] i h = absurd (omega arith)
freed_of_get rack (m ∷ ms) zero h = refl
freed_of_get rack (m ∷ ms) (suc i) h = freed_of_get rack ms i (omega arith)

pub are_marks_freed : (rack : ℕ) (ms : List ℕ) → are_marks ms ≡ true → are_marks (freed_of rack ms) ≡ true
unfolding freed_of
are_marks_freed rack [] e = e
are_marks_freed rack (m ∷ ms) e =
    are_marks_cons (cond (eqb m rack) 255 m) (freed_of rack ms) (go (eqb m rack) (are_marks_parts m ms e).0) (are_marks_freed rack ms (are_marks_parts m ms e).1)
  where
    go : (b : Bool) → is_mark m ≡ true → is_mark (cond b 255 m) ≡ true
    go true is = refl
    go false is = is

-- how many there are then: of the rack's none, of the free ones those as well, of others as many
module _ (rack : ℕ) (own : rack ≡ 255 → ⊥) where
  pub times_freed_own : (ms : List ℕ) → times rack (freed_of rack ms) ≡ 0
  unfolding times tally freed_of
  times_freed_own [] = refl
  times_freed_own (m ∷ ms) = go (eqb m rack) refl (times_freed_own ms)
    where
      go : (b : Bool) → eqb m rack ≡ b → times rack (freed_of rack ms) ≡ 0
          → one (eqb (cond b 255 m) rack) + times rack (freed_of rack ms) ≡ 0
      go true is rest = omega (arith, rest, one_other {a = 255} {b = rack} (λ e. own (sym e)))
      go false is rest = omega (arith, rest, one_other {a = m} {b = rack} (eqb-false m rack is))

  pub times_freed_free : (ms : List ℕ) → times 255 (freed_of rack ms) ≡ times 255 ms + times rack ms
  unfolding times tally freed_of
  times_freed_free [] = refl
  times_freed_free (m ∷ ms) = go (eqb m rack) refl (times_freed_free ms)
    where
      go : (b : Bool) → eqb m rack ≡ b → times 255 (freed_of rack ms) ≡ times 255 ms + times rack ms
          → one (eqb (cond b 255 m) 255) + times 255 (freed_of rack ms) ≡ one (eqb m 255) + times 255 ms + (one (eqb m rack) + times rack ms)
      go true is rest =
          let same = eqb-true m rack is in
          omega (arith, rest, one_same {a = 255} {b = 255} refl, one_same {a = m} {b = rack} same, one_other {a = m} {b = 255} (λ e. own (sym same ∙ e)))
      go false is rest = omega (arith, rest, one_other {a = m} {b = rack} (eqb-false m rack is))

  pub times_freed_other : (mark : ℕ) → (mark ≡ rack → ⊥) → (mark ≡ 255 → ⊥) → (ms : List ℕ) → times mark (freed_of rack ms) ≡ times mark ms
  unfolding times tally freed_of
  times_freed_other mark other held [] = refl
  times_freed_other mark other held (m ∷ ms) = go (eqb m rack) refl (times_freed_other mark other held ms)
    where
      go : (b : Bool) → eqb m rack ≡ b → times mark (freed_of rack ms) ≡ times mark ms
          → one (eqb (cond b 255 m) mark) + times mark (freed_of rack ms) ≡ one (eqb m mark) + times mark ms
      go true is rest =
          let same = eqb-true m rack is in
          omega (arith, rest, one_other {a = 255} {b = mark} (λ e. held (sym e)), one_other {a = m} {b = mark} (λ e. other (sym e ∙ same)))
      go false is rest = omega (arith, rest)
