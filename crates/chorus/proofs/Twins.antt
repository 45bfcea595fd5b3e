-- On the coil twins are cards that say one UID and different DSFIDs. By demand 3 there, and by counting the different answers with one UID.
-- Assumes nothing.
use mathlib.Core.Path.{◌≡◌, refl, sym, ap, subst, ◌∙◌}
use mathlib.Core.Bool.{Bool, true, false}
use Prim.Native.Nat.{ℕ, suc, ◌+◌, ◌≤◌}
use native.Mathlib.Decide.{ℕ_discrete, dec_le}
use native.Mathlib.Omega.{arith}
use mathlib.Core.List.{List, [], ◌∷◌}
use borrow.Author.Tests.{eq-eqb, ne_eqb}
use lib.Dec.{eqb}
use lib.ListN.{length}
use Rattle.tails.specs.Sum.{tally, times}
use Rattle.tails.specs.Sum as sum
use Rattle.play.specs.Life.{Tag}
use Rattle.field.specs.Found.{Different}
use Rattle.chorus.specs.Different.{Said, alike, different_answers, uids_of, times_said}
use Rattle.chorus.specs.Demand.{UnlikeTwins, CoilDemand3, CoilTwins}
use Rattle.chorus.proofs.Different.{saying, alike_true, each_once, at_most_once, said_speaks}
use Rattle.chorus.proofs.Apart.{coil_demand3}

length_uids : (l : List Said) → length (uids_of l) ≡ length l
unfolding uids_of
length_uids [] = refl
length_uids (a ∷ rest) = ap suc (length_uids rest)

-- ---- two answers with one UID are two of that UID

two_said : (u d e : ℕ) (l : List Said) → (d ≡ e → ⊥) → times_said (saying u d) l + times_said (saying u e) l ≤ times u (uids_of l)
unfolding times_said times tally uids_of sum.one
two_said u d e [] n = omega arith
two_said u d e (a ∷ rest) n = go (alike (saying u d) a) (alike (saying u e) a) refl refl (two_said u d e rest n)
  where
    uid_is : (x : ℕ) → alike (saying u x) a ≡ true → eqb a.uid u ≡ true
    uid_is x f = eq-eqb a.uid u (sym (ap (λ (b : Said). b.uid) (alike_true (saying u x) a f)))

    dsfid_is : (x : ℕ) → alike (saying u x) a ≡ true → x ≡ a.dsfid
    dsfid_is x f = ap (λ (b : Said). b.dsfid) (alike_true (saying u x) a f)

    go : (b c : Bool) → alike (saying u d) a ≡ b → alike (saying u e) a ≡ c
        → times_said (saying u d) rest + times_said (saying u e) rest ≤ times u (uids_of rest)
        → times_said (saying u d) (a ∷ rest) + times_said (saying u e) (a ∷ rest) ≤ times u (a.uid ∷ uids_of rest)
    go true true f g later = absurd (n (dsfid_is d f ∙ sym (dsfid_is e g)))
    go true false f g later = rw (f, g, uid_is d f) (omega arith)
    go false true f g later = rw (f, g, uid_is e g) (omega arith)
    go false false f g later = rw (f, g) (omega arith)

-- ---- a UID that stands twice is that of two answers, where each stands once

said_first : (u : ℕ) (a : Said) (rest : List Said) → a.uid ≡ u → times_said (saying u a.dsfid) (a ∷ rest) ≡ 1 + times_said (saying u a.dsfid) rest
unfolding times_said alike
said_first u a rest e = rw (eq-eqb u a.uid (sym e), eq-eqb a.dsfid a.dsfid refl)

-- one is found
some_said : (u : ℕ) (l : List Said) → 1 ≤ times u (uids_of l) → (d : ℕ) × (1 ≤ times_said (saying u d) l)
unfolding times_said times tally uids_of sum.one
some_said u [] h = absurd (omega arith)
some_said u (a ∷ rest) h = go (ℕ_discrete a.uid u) (some_said u rest)
  where
    go : Dec (a.uid ≡ u) → (1 ≤ times u (uids_of rest) → (d : ℕ) × (1 ≤ times_said (saying u d) rest)) → (d : ℕ) × (1 ≤ times_said (saying u d) (a ∷ rest))
    go (yes e) later = (a.dsfid, omega (arith, said_first u a rest e))
    go (no e) later =
        let found = later (omega (arith, rw (ne_eqb a.uid u e) at h)) in
        (found.0, omega (arith, found.1))

-- two of a list with one UID
record TwoSaid (u : ℕ) (l : List Said) : Type 0 where
  one : ℕ
  other : ℕ
  one_said : 1 ≤ times_said (saying u one) l
  other_said : 1 ≤ times_said (saying u other) l
  differ : one ≡ other → ⊥

said_twice : (u : ℕ) (l : List Said) → ((a : Said) → times_said a l ≤ 1) → 2 ≤ times u (uids_of l) → TwoSaid u l
unfolding times_said times tally uids_of sum.one
said_twice u [] once h = absurd (omega arith)
said_twice u (a ∷ rest) once h = go (ℕ_discrete a.uid u) h (said_twice u rest (λ b. omega (arith, once b)))
  where
    go : Dec (a.uid ≡ u) → 2 ≤ times u (a.uid ∷ uids_of rest) → (2 ≤ times u (uids_of rest) → TwoSaid u rest) → TwoSaid u (a ∷ rest)
    go (yes e) g later =
        let more = some_said u rest (omega (arith, rw (eq-eqb a.uid u e) at g)) in
        let first = said_first u a rest e in
        let again : a.dsfid ≡ more.0 → 1 ≤ times_said (saying u a.dsfid) rest =
        λ same. subst (λ (d : ℕ). 1 ≤ times_said (saying u d) rest) (sym same) more.1 in
        record {
          one = a.dsfid;
          other = more.0;
          one_said = omega (arith, first);
          other_said = omega (arith, more.1);
          differ = λ same. absurd (omega (arith, first, once (saying u a.dsfid), again same));
        }
    go (no e) g later =
        let two = later (omega (arith, rw (ne_eqb a.uid u e) at g)) in
        record {
          one = two.one;
          other = two.other;
          one_said = omega (arith, two.one_said);
          other_said = omega (arith, two.other_said);
          differ = two.differ;
        }

-- ---- of cards

module _ (family : ℕ) (tags : List Tag) where
  unlike_of_two : (u : ℕ) → 2 ≤ times u (uids_of (different_answers family tags)) → UnlikeTwins family tags
  unlike_of_two u h =
      let two = said_twice u (different_answers family tags) (at_most_once family tags) h in
      record {
        uid = u;
        one = two.one;
        other = two.other;
        one_speaks = said_speaks family tags (saying u two.one) two.one_said;
        other_speaks = said_speaks family tags (saying u two.other) two.other_said;
        differ = two.differ;
      }

  two_of_unlike : (t : UnlikeTwins family tags) → 2 ≤ times t.uid (uids_of (different_answers family tags))
  two_of_unlike t =
      omega (
        arith,
        two_said t.uid t.one t.other (different_answers family tags) t.differ,
        each_once.once family tags (saying t.uid t.one) t.one_speaks,
        each_once.once family tags (saying t.uid t.other) t.other_speaks,
      )

  different_of_none : (UnlikeTwins family tags → ⊥) → Different (uids_of (different_answers family tags))
  unfolding Different
  different_of_none h u = go (dec_le (times u (uids_of (different_answers family tags))) 1)
    where
      go : Dec (times u (uids_of (different_answers family tags)) ≤ 1) → times u (uids_of (different_answers family tags)) ≤ 1
      go (yes few) = few
      go (no many) = absurd (h (unlike_of_two u (omega arith)))

pub coil_twins : CoilTwins
unfolding CoilTwins CoilDemand3 Different
coil_twins family tags list room obey marked begin places fits =
    let found = (coil_demand3 family tags list room obey marked begin places fits).found in
    let long : length (uids_of (different_answers family tags)) ≡ length (different_answers family tags) = length_uids (different_answers family tags) in
    record {
      twins_differ = λ e. unlike_of_two family tags (found.twins_alike e).uid (found.twins_alike e).twice;
      differ_twins = λ few t. found.alike (rw long few) (λ once. absurd (omega (arith, once t.uid, two_of_unlike family tags t)));
      else_completes = λ few h. found.completes (rw long few) (different_of_none family tags h);
    }
