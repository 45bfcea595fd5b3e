-- Two cards on the coil, by demand 3 there and by what twins mean; the numbers by computation. Assumes nothing.
use mathlib.Core.Path.{◌≡◌, refl, ap, ap₂, ◌∙◌}
use mathlib.Core.Bool.{Bool, true, false, cond, ◌||◌}
use Prim.Native.Nat.{ℕ, ◌+◌, ◌/◌, ◌^◌, ◌≤◌}
use native.Mathlib.Omega.{arith}
use mathlib.Core.List.{[], ◌∷◌}
use borrow.Author.Tests.{lt-ltb, le-ltb}
use lib.Dec.{eqb}
use lib.ListN.{length}
use Rattle.tails.specs.Sum.{one, tally, times}
use Rattle.walk.specs.Record.{complete}
use Rattle.play.specs.Life.{Tag}
use Rattle.field.specs.Field.{answers, answering}
use Rattle.field.specs.Found.{Different, BeginE0, Found}
use Rattle.field.specs.Played.{Play}
use Rattle.field.proofs.Suited.{begin_none, begin_more}
use Rattle.chorus.specs.Air.{heard_by}
use Rattle.chorus.specs.Different.{said, alike, said_by, is_among, distinct, different_answers, uids_of, here, there}
use Rattle.chorus.specs.Demand.{UnlikeTwins, CoilDemand3, CoilTwins}
use Rattle.chorus.specs.Examples.{FoundOne, CoilFields}
use Rattle.chorus.proofs.Different.{saying, alike_self}
use Rattle.chorus.proofs.Apart.{coil_demand3}
use Rattle.chorus.proofs.Twins.{coil_twins}

-- ---- one UID

one_different : (u : ℕ) → Different (u ∷ [])
unfolding Different times tally one
one_different u v = go (eqb u v)
  where
    go : (b : Bool) → one b + 0 ≤ 1
    go true = omega arith
    go false = omega arith

found_one : (u : ℕ) (p : Play) → Found (u ∷ []) p.walk p.list → FoundOne u p
found_one u p found =
    let end : p.walk.ending ≡ complete = found.completes (omega arith) (one_different u) in
    record {
      ending = end;
      rounds = omega (arith, found.rounds end, found.rounds_most end);
      count = found.count end;
      list = found.each_once end;
    }

-- ---- two cards

module _ (family : ℕ) (a b : Tag) (p : answers family a.card ≡ true) (q : answers family b.card ≡ true) where
  two_begin : b.card.uid / 2 ^ 56 ≡ 0xe0 → a.card.uid ≡ b.card.uid → BeginE0 (answering family (a ∷ b ∷ []))
  unfolding answering
  two_begin e u = rw (p, q) (begin_more a.card.uid (b.card.uid ∷ []) (rw u e) (begin_more b.card.uid [] e begin_none))

  two_said : different_answers family (a ∷ b ∷ [])
      ≡ cond (alike (said a.card) (said b.card) || false) (said b.card ∷ []) (said a.card ∷ said b.card ∷ [])
  unfolding different_answers said_by distinct is_among
  two_said = rw (p, q)

  one_said : a.card.uid ≡ b.card.uid → a.card.dsfid ≡ b.card.dsfid → different_answers family (a ∷ b ∷ []) ≡ said b.card ∷ []
  one_said u d =
      let same : said a.card ≡ said b.card = ap₂ saying u d in
      two_said ∙ rw (same, alike_self (said b.card))

  few_said : length (different_answers family (a ∷ b ∷ [])) ≤ 64
  few_said = rw two_said (go (alike (said a.card) (said b.card) || false))
    where
      go : (s : Bool) → length (cond s (said b.card ∷ []) (said a.card ∷ said b.card ∷ [])) ≤ 64
      go true = omega arith
      go false = omega arith

  unlike : a.card.uid ≡ b.card.uid → (a.card.dsfid ≡ b.card.dsfid → ⊥) → UnlikeTwins family (a ∷ b ∷ [])
  unlike u d =
      record {
        uid = b.card.uid;
        one = a.card.dsfid;
        other = b.card.dsfid;
        one_speaks = here p (ap (λ (v : ℕ). saying v a.card.dsfid) u);
        other_speaks = there (here q refl);
        differ = d;
      }

pub coil_fields : CoilFields
unfolding CoilDemand3 CoilTwins uids_of heard_by
coil_fields =
    record {
      two_alike = λ family a b list room obey fit places wide p q e u d.
          found_one b.card.uid _
          (rw (one_said family a b p q u d) at (coil_demand3 family (a ∷ b ∷ []) list room obey fit (two_begin family a b p q e u) places wide).found);
      two_dsfids = λ family a b list room obey fit places wide p q e u d.
          (coil_twins family (a ∷ b ∷ []) list room obey fit (two_begin family a b p q e u) places wide).differ_twins (few_said family a b p q)
          (unlike family a b p q u d);
      answer_told = λ n left h. rw (lt-ltb n 131072 h);
      bad_told = λ n left h. rw (le-ltb n 131072 h);
      refusal_told = λ n left. refl;
    }
