-- Each different answer stands once among the different answers, and nothing else does. By induction over what the cards say.
-- Assumes nothing.
use mathlib.Core.Path.{◌≡◌, refl, sym, ap, ap₂, ◌∙◌}
use mathlib.Core.Bool.{Bool, true, false, cond, ◌||◌, or-true, and-eq-true_iff, false≢true}
use Prim.Native.Nat.{ℕ, ◌≤◌}
use native.Mathlib.Omega.{arith}
use mathlib.Core.List.{List, [], ◌∷◌}
use borrow.Author.Tests.{eq-eqb, eqb-true}
use lib.Dec.{eqb}
use Rattle.play.specs.Life.{Tag}
use Rattle.field.specs.Field.{answers}
use Rattle.chorus.specs.Different.{Said, said, alike, said_by, is_among, distinct, different_answers, Speaks, here, there, times_said, EachOnce}

-- a UID and a DSFID, as an answer
abbrev pub saying : ℕ → ℕ → Said
saying u d = record { uid = u; dsfid = d }

-- ---- alike

pub alike_self : (a : Said) → alike a a ≡ true
unfolding alike
alike_self a = rw (eq-eqb a.uid a.uid refl, eq-eqb a.dsfid a.dsfid refl)

pub alike_true : (a b : Said) → alike a b ≡ true → a ≡ b
unfolding alike
alike_true a b e =
    let both = (and-eq-true_iff (eqb a.uid b.uid) (eqb a.dsfid b.dsfid)).0 e in
    ap₂ saying (eqb-true a.uid b.uid both.0) (eqb-true a.dsfid b.dsfid both.1)

-- ---- each once

times_distinct : (a : Said) (l : List Said) → times_said a (distinct l) ≡ cond (is_among a l) 1 0
unfolding times_said distinct is_among
times_distinct a [] = refl
times_distinct a (b ∷ rest) = go (is_among b rest) (alike a b) refl refl (times_distinct a rest)
  where
    same : alike a b ≡ true → is_among a rest ≡ is_among b rest
    same t = ap (λ (x : Said). is_among x rest) (alike_true a b t)

    go : (s t : Bool) → is_among b rest ≡ s → alike a b ≡ t → times_said a (distinct rest) ≡ cond (is_among a rest) 1 0
        → times_said a (cond s (distinct rest) (b ∷ distinct rest)) ≡ cond (t || is_among a rest) 1 0
    go true true e f later = later ∙ rw (same f, e)
    go true false e f later = later
    go false true e f later = rw (f, later, same f, e)
    go false false e f later = rw (f, later) (omega arith)

-- ---- what is said is what some card says

speaks_among : (family : ℕ) (tags : List Tag) (a : Said) → Speaks family a tags → is_among a (said_by family tags) ≡ true
unfolding said_by is_among
speaks_among family (t ∷ ts) a (here e f) = rw (e, f, alike_self a)
speaks_among family (t ∷ ts) a (there s) = go (answers family t.card) (speaks_among family ts a s)
  where
    go : (b : Bool) → is_among a (said_by family ts) ≡ true → is_among a (cond b (said t.card ∷ said_by family ts) (said_by family ts)) ≡ true
    go true later = rw later (or-true (alike a (said t.card)))
    go false later = later
speaks_among family [] a h = elim h [ ]

among_speaks : (family : ℕ) (tags : List Tag) (a : Said) → is_among a (said_by family tags) ≡ true → Speaks family a tags
unfolding said_by is_among
among_speaks family [] a h = absurd (false≢true h)
among_speaks family (t ∷ ts) a h = go (answers family t.card) refl h (λ g. there (among_speaks family ts a g))
  where
    either : (b : Bool) → answers family t.card ≡ true → alike a (said t.card) ≡ b → (b || is_among a (said_by family ts)) ≡ true
        → (is_among a (said_by family ts) ≡ true → Speaks family a (t ∷ ts)) → Speaks family a (t ∷ ts)
    either true e f g later = here e (sym (alike_true a (said t.card) f))
    either false e f g later = later g

    go : (b : Bool) → answers family t.card ≡ b → is_among a (cond b (said t.card ∷ said_by family ts) (said_by family ts)) ≡ true
        → (is_among a (said_by family ts) ≡ true → Speaks family a (t ∷ ts)) → Speaks family a (t ∷ ts)
    go true e g later = either (alike a (said t.card)) e refl g later
    go false e g later = later g

none_among : (family : ℕ) (tags : List Tag) (a : Said) → (Speaks family a tags → ⊥) → is_among a (said_by family tags) ≡ false
none_among family tags a s = go (is_among a (said_by family tags)) refl
  where
    go : (b : Bool) → is_among a (said_by family tags) ≡ b → b ≡ false
    go true e = absurd (s (among_speaks family tags a e))
    go false e = refl

pub each_once : EachOnce
unfolding different_answers
each_once =
    record {
      once = λ family tags a s. times_distinct a (said_by family tags) ∙ rw (speaks_among family tags a s);
      only = λ family tags a s. times_distinct a (said_by family tags) ∙ rw (none_among family tags a s);
    }

-- ---- what the count tells

pub at_most_once : (family : ℕ) (tags : List Tag) (a : Said) → times_said a (different_answers family tags) ≤ 1
unfolding different_answers
at_most_once family tags a = rw (times_distinct a (said_by family tags)) (go (is_among a (said_by family tags)))
  where
    go : (b : Bool) → cond b 1 0 ≤ 1
    go true = omega arith
    go false = omega arith

pub said_speaks : (family : ℕ) (tags : List Tag) (a : Said) → 1 ≤ times_said a (different_answers family tags) → Speaks family a tags
unfolding different_answers
said_speaks family tags a h = among_speaks family tags a (go (is_among a (said_by family tags)) (rw (times_distinct a (said_by family tags)) at h))
  where
    go : (b : Bool) → 1 ≤ cond b 1 0 → b ≡ true
    go true g = refl
    go false g = absurd (omega arith)
