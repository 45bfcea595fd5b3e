-- Demand 3 without its premise: a card whose UID does not begin with E0 is heard as two alike, so that the walk of any cards is one over UIDs that all
-- begin with E0. By the tests of a clean reply, and demand 3 for any air. Assumes nothing.
use mathlib.Core.Path.{◌≡◌, refl, sym, ap, subst, ◌∙◌}
use mathlib.Core.Bool.{Bool, true, false, cond}
use Prim.Native.Nat.{ℕ, suc, ◌+◌, ◌*◌, ◌/◌, ◌%◌, ◌^◌, ◌≤◌}
use native.Mathlib.Omega.{arith}
use mathlib.Core.List.{List, [], ◌∷◌}
use borrow.Author.Tests.{eq-eqb, eqb-true, eqb-false}
use lib.Dec.{eqb}
use Rattle.tails.specs.Sum.{one, tally, times}
use Rattle.tails.specs.Tails.{ending}
use Rattle.tails.proofs.Digits.{tail_tail}
use Rattle.walk.specs.declared.Walk.{Walk}
use Rattle.walk.specs.declared.Slot.TheVariants.{Clashed, Clean}
use Rattle.walk.specs.Marks.{levels}
use Rattle.walk.specs.Record.{levels_of, whole_mask, complete, twins, full, is_running}
use Rattle.walk.specs.Hear.{starts_e0}
use Rattle.play.specs.Life.{Tag}
use Rattle.field.specs.Field.{answering, arrives}
use Rattle.field.specs.Found.{Different, BeginE0, Found}
use Rattle.field.specs.Demand.{AllObey}
use Rattle.field.specs.Foreign.{with_e0, as_heard, FoundAny, AnyUids}
use Rattle.field.proofs.Called.{called, slot_of, slot_heard}
use Rattle.field.proofs.Suited.{begin_none, begin_more}
use Rattle.field.proofs.PlayedSlot.{Brings, arrives_heard}
use Rattle.field.proofs.Demand3.{walk_of_an_air}

-- ---- the UIDs as they count

with_e0_begins : (u : ℕ) → with_e0 u / 2 ^ 56 ≡ 0xe0
unfolding with_e0
with_e0_begins u = omega arith

pub as_heard_begin : (us : List ℕ) → BeginE0 (as_heard us)
unfolding as_heard
as_heard_begin [] = begin_none
as_heard_begin (u ∷ us) = go (eqb (u / 2 ^ 56) 0xe0) refl (as_heard_begin us)
  where
    go : (b : Bool) → eqb (u / 2 ^ 56) 0xe0 ≡ b → BeginE0 (as_heard us) → BeginE0 (cond b (u ∷ as_heard us) (with_e0 u ∷ with_e0 u ∷ as_heard us))
    go true e rest = begin_more u (as_heard us) (eqb-true (u / 2 ^ 56) 0xe0 e) rest
    go false e rest = begin_more (with_e0 u) _ (with_e0_begins u) (begin_more (with_e0 u) (as_heard us) (with_e0_begins u) rest)

-- fourteen digits stay
with_e0_tail : (u j : ℕ) → j ≤ 14 → with_e0 u % 16 ^ j ≡ u % 16 ^ j
unfolding with_e0
with_e0_tail u j h =
    let low : (0xe0 * 2 ^ 56 + u % 2 ^ 56) % 16 ^ 14 ≡ u % 16 ^ 14 = omega arith in
    sym (tail_tail (0xe0 * 2 ^ 56 + u % 2 ^ 56) j 14 h) ∙ ap (λ (t : ℕ). t % 16 ^ j) low ∙ tail_tail u j 14 h

-- so the same are called
heard_ending : (j m : ℕ) (us : List ℕ) → j ≤ 14 → ending j m (as_heard us) ≡ as_heard (ending j m us)
unfolding ending as_heard
heard_ending j m [] h = refl
heard_ending j m (u ∷ us) h = go (eqb (u / 2 ^ 56) 0xe0) (eqb (u % 16 ^ j) m) refl refl (heard_ending j m us h)
  where
    tail : eqb (with_e0 u % 16 ^ j) m ≡ eqb (u % 16 ^ j) m
    tail = ap (λ (t : ℕ). eqb t m) (with_e0_tail u j h)

    go : (b c : Bool) → eqb (u / 2 ^ 56) 0xe0 ≡ b → eqb (u % 16 ^ j) m ≡ c → ending j m (as_heard us) ≡ as_heard (ending j m us)
        → ending j m (cond b (u ∷ as_heard us) (with_e0 u ∷ with_e0 u ∷ as_heard us)) ≡ as_heard (cond c (u ∷ ending j m us) (ending j m us))
    go true true e f rest = rw (f, e) (ap (λ (l : List ℕ). u ∷ l) rest)
    go true false e f rest = rw f rest
    go false true e f rest = rw (tail, f, e) (ap (λ (l : List ℕ). with_e0 u ∷ with_e0 u ∷ l) rest)
    go false false e f rest = rw (tail, f) rest

-- where all begin with E0 they count once each
pub as_heard_same : (us : List ℕ) → BeginE0 us → as_heard us ≡ us
unfolding as_heard BeginE0 times tally one
as_heard_same [] begin = refl
as_heard_same (u ∷ us) begin =
    let first : u / 2 ^ 56 ≡ 0xe0 = begin u (rw (eq-eqb u u refl) (omega arith)) in
    rw (eq-eqb (u / 2 ^ 56) 0xe0 first) (ap (λ (l : List ℕ). u ∷ l) (as_heard_same us (λ v h. begin v (omega arith))))

-- where they count as different ones all begin with it
pub different_begin : (us : List ℕ) → Different (as_heard us) → BeginE0 us
unfolding as_heard Different times tally one
different_begin [] once = begin_none
different_begin (u ∷ us) once = go (eqb (u / 2 ^ 56) 0xe0) refl once (different_begin us)
  where
    go : (b : Bool) → eqb (u / 2 ^ 56) 0xe0 ≡ b → ((v : ℕ) → times v (cond b (u ∷ as_heard us) (with_e0 u ∷ with_e0 u ∷ as_heard us)) ≤ 1)
        → (((v : ℕ) → times v (as_heard us) ≤ 1) → BeginE0 us) → BeginE0 (u ∷ us)
    go true e once rest = begin_more u us (eqb-true (u / 2 ^ 56) 0xe0 e) (rest (λ v. let all = once v in omega (arith, all)))
    go false e once rest =
        let twice : one (eqb (with_e0 u) (with_e0 u)) ≡ 1 = ap (λ (b : Bool). one b) (eq-eqb (with_e0 u) (with_e0 u) refl) in
        absurd (omega (arith, once (with_e0 u), twice))

-- ---- what arrives of them

heard_slot : (us : List ℕ) → slot_heard 14 us ≡ slot_of (as_heard us)
unfolding slot_heard slot_of as_heard starts_e0
heard_slot [] = refl
heard_slot (u ∷ []) = go (eqb (u / 2 ^ 56) 0xe0)
  where
    go : (b : Bool) → cond b (Clean u) Clashed ≡ slot_of (cond b (u ∷ []) (with_e0 u ∷ with_e0 u ∷ []))
    go true = refl
    go false = refl
heard_slot (u ∷ v ∷ us) = go (eqb (u / 2 ^ 56) 0xe0) (eqb (v / 2 ^ 56) 0xe0)
  where
    go : (b c : Bool) → Clashed
        ≡ slot_of (cond b (u ∷ cond c (v ∷ as_heard us) (with_e0 v ∷ with_e0 v ∷ as_heard us))
        (with_e0 u ∷ with_e0 u ∷ cond c (v ∷ as_heard us) (with_e0 v ∷ with_e0 v ∷ as_heard us)))
    go true true = refl
    go true false = refl
    go false c = refl

pub any_brings : (family : ℕ) (tags : List Tag) → AllObey tags → Brings arrives levels (as_heard (answering family tags)) family tags
unfolding levels_of levels called
any_brings family tags obey w long same fits =
    let us : List ℕ = answering family tags in
    let inside : suc w.level ≤ 14 = omega (arith, fits.level, long) in
    arrives_heard family tags w obey fits
    ∙ ap (λ (n : ℕ). slot_heard n (called us w)) long
    ∙ heard_slot (called us w)
    ∙ ap slot_of (sym (heard_ending (suc w.level) (whole_mask w + w.slot * 16 ^ w.level) us inside))

-- ---- what it finds

pub any_found : (us : List ℕ) (w : Walk) (list : List ℕ) → Found (as_heard us) w list → FoundAny us w list
unfolding is_running
any_found us w list found =
    let begins : w.ending ≡ complete → BeginE0 us = λ e. different_begin us (found.different e) in
    record {
      ends = found.ends;
      complete_e0 = begins;
      complete_found = λ e. subst (λ (xs : List ℕ). Found xs w list) (as_heard_same us (begins e)) found;
      foreign_twins = λ few foreign. found.alike few (λ different. foreign (different_begin us different));
      foreign_ends = λ foreign other. twins_of (λ e. foreign (begins e)) other;
      no_overrun = found.no_overrun;
    }
  where
    twins_of : (w.ending ≡ complete → ⊥) → (w.ending ≡ full → ⊥) → w.ending ≡ twins
    twins_of a b = omega (arith, found.no_overrun, eqb-false w.ending 0 found.ends, a, b)

pub walk_of_any_uids : AnyUids
unfolding AnyUids
walk_of_any_uids family tags list room obey places fits =
    any_found (answering family tags) _ _
    (walk_of_an_air arrives (as_heard (answering family tags)) family tags list room (as_heard_begin (answering family tags)) obey (any_brings family tags obey)
    places fits).found
