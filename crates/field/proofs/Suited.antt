-- A walk of fourteen levels suits UIDs that begin with E0, which is all that they have above fourteen digits; one of sixteen suits the UIDs of any cards
-- that obey, which have no more digits. By the tests of the definition, and by induction over the cards. Assumes nothing.
use mathlib.Core.Path.{◌≡◌, ap}
use mathlib.Core.Bool.{Bool, true, false, cond}
use Prim.Native.Nat.{ℕ, ◌/◌, ◌^◌, ◌≤◌, ◌<◌}
use native.Mathlib.Decide.{ℕ_discrete}
use native.Mathlib.Omega.{arith}
use mathlib.Core.List.{List, [], ◌∷◌}
use borrow.Author.Tests.{eq-eqb, ne_eqb}
use lib.Dec.{eqb}
use Rattle.tails.specs.Sum.{one, tally, times}
use Rattle.walk.specs.Marks.{levels}
use Rattle.walk.specs.Hear.{starts_e0}
use Rattle.play.specs.Life.{Tag}
use Rattle.field.specs.Field.{answers, answering}
use Rattle.field.specs.Found.{BeginE0}
use Rattle.field.specs.Demand.{AllObey, none, more}
use Rattle.field.proofs.Called.{Starts}
use Rattle.field.proofs.Next.{Suits}

-- ---- fourteen levels

pub e0_starts : (us : List ℕ) → BeginE0 us → Starts 14 us
unfolding BeginE0 Starts starts_e0
e0_starts us begin u h = eq-eqb (u / 2 ^ 56) 0xe0 (begin u h)

pub e0_suit : (us : List ℕ) → BeginE0 us → Suits levels us
unfolding levels
e0_suit us begin = record { most = omega arith; starts = e0_starts us begin }

-- one more that does, before the others
pub begin_none : BeginE0 []
unfolding BeginE0 times tally
begin_none u h = absurd (omega arith)

pub begin_more : (v : ℕ) (us : List ℕ) → v / 2 ^ 56 ≡ 0xe0 → BeginE0 us → BeginE0 (v ∷ us)
unfolding BeginE0 times tally one
begin_more v us first rest u h = go (ℕ_discrete v u)
  where
    go : Dec (v ≡ u) → u / 2 ^ 56 ≡ 0xe0
    go (yes e) = rw (← e) first
    go (no e) =
        let other : one (eqb v u) ≡ 0 = ap (λ (b : Bool). one b) (ne_eqb v u e) in
        rest u (omega (arith, other, h))

-- ---- sixteen levels

uids_fit : (family : ℕ) (tags : List Tag) → AllObey tags → (u : ℕ) → 1 ≤ times u (answering family tags) → u < 2 ^ 64
unfolding answering times tally one
uids_fit family [] none u h = absurd (omega arith)
uids_fit family (t ∷ ts) (more obeys rest) u h = go (answers family t.card) h (uids_fit family ts rest u)
  where
    uid : ℕ
    uid = t.card.uid

    here : Dec (uid ≡ u) → 1 ≤ times u (uid ∷ answering family ts) → (1 ≤ times u (answering family ts) → u < 2 ^ 64) → u < 2 ^ 64
    here (yes e) h later = rw (← e) obeys.uid_fits
    here (no e) h later =
        let other : one (eqb uid u) ≡ 0 = ap (λ (b : Bool). one b) (ne_eqb uid u e) in
        later (omega (arith, other, h))

    go : (b : Bool) → 1 ≤ times u (cond b (uid ∷ answering family ts) (answering family ts)) → (1 ≤ times u (answering family ts) → u < 2 ^ 64)
        → u < 2 ^ 64
    go true h later = here (ℕ_discrete uid u) h later
    go false h later = later h

pub whole_suit : (family : ℕ) (tags : List Tag) → AllObey tags → Suits 16 (answering family tags)
unfolding Starts starts_e0
whole_suit family tags obey =
    record {
      most = omega arith;
      starts = λ u h. let fits : u < 2 ^ 64 = uids_fit family tags obey u h in eq-eqb (u / 2 ^ 64) 0 (omega arith);
    }
