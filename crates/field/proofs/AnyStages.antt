-- A slot of a walk over any replies: it hears on, and 16 × rounds + slot has grown by one, or it has ended; no UID twice either way.
-- By the tests of hearing, one after the other. Assumes nothing.
use mathlib.Core.Path.{◌≡◌, refl, sym, ap, subst, ◌∙◌}
use mathlib.Core.Bool.{Bool, true, false, cond}
use Prim.Native.Nat.{ℕ, zero, suc, ◌+◌, ◌*◌, ◌≤◌, ◌<◌}
use native.Mathlib.Numerals.{add-one}
use native.Mathlib.Omega.{arith}
use mathlib.Core.List.{List}
use borrow.Author.Tests.{ne_eqb, eqb-true, eqb-false, ltb-true, ltb-false}
use lib.Dec.{ltb, eqb}
use lib.ListN.{length}
use Rattle.tails.specs.Sum.{times}
use Rattle.walk.specs.declared.Walk.{Walk}
use Rattle.walk.specs.declared.Slot.{Slot}
use Rattle.walk.specs.Marks.{deepest}
use Rattle.walk.specs.Record.{levels_of, most_rounds, is_running, is_accepted, remade, ended, at_next_slot, opened_at, opened}
use Rattle.walk.specs.Hear.{ends_at_once, noted, turned, passed, walk_after}
use Rattle.walk.proofs.Limits.{is_accepted_of_accepted}
use Rattle.walk.proofs.Accepted.{ended_facts}
use Rattle.field.proofs.Ahead.{ahead}
use Rattle.field.proofs.AnyReplies.{alone, Walks, Fits, Lists, ending_added, ending_walks, note_walks, next_walks, open_walks}
use Rattle.field.proofs.Next.{noted_kept, noted_ending}

-- after n slots, with the UIDs ls listed: the walk hears, or it has ended
pub data Stage (levels n : ℕ) (w : Walk) (ls : List ℕ) : Type 0 where
  hears : Walks levels w ls w.slot → w.slot < 16 → w.ending ≡ 0 → 16 * w.rounds + w.slot ≡ 16 + n → Stage levels n w ls
  rests : is_accepted w ≡ true → is_running w ≡ false → ((u : ℕ) → times u ls ≤ 1) → length ls ≡ w.count → Stage levels n w ls

pub once : {levels : ℕ} (w : Walk) (ls : List ℕ) (t : ℕ) → Walks levels w ls t → (u : ℕ) → times u ls ≤ 1
once w ls t g u =
    let most : times u ls + ahead (alone u) w t ≤ 1 = g.single u in
    omega arith

-- an ending leaves the list
ends_with : {levels : ℕ} (n e t : ℕ) (w : Walk) (ls : List ℕ) → (e ≡ 0 → ⊥) → Walks levels w ls t → Stage levels n (ended e w) ls
unfolding ended remade is_running
ends_with n e t w ls h g =
    rests (is_accepted_of_accepted (ended e w) (ended_facts w g.steady.accepted e)) (ne_eqb e 0 h) (once w ls t g) g.number

-- the next slot, the next round
moves : {levels : ℕ} (n : ℕ) (x : Walk) (ls : List ℕ) → Walks levels x ls (suc x.slot) → x.slot < 15 → x.ending ≡ 0
    → 16 * x.rounds + x.slot ≡ 16 + n → Stage levels (suc n) (at_next_slot x) ls
unfolding at_next_slot remade
moves {levels} n x ls g h e c =
    hears (subst (λ (t : ℕ). Walks levels (at_next_slot x) ls t) (sym (add-one x.slot)) (next_walks x ls (suc x.slot) h g)) (omega arith) e (omega arith)

opens : {levels : ℕ} (n j : ℕ) (x : Walk) (ls : List ℕ) → Walks levels x ls 16 → x.slot ≡ 15 → x.ending ≡ 0
    → 16 * x.rounds + x.slot ≡ 16 + n → deepest x.marks ≡ suc j → x.rounds < most_rounds (length x.marks) → Stage levels (suc n) (opened x j) ls
unfolding opened opened_at remade
opens n j x ls g h e c d r = hears (open_walks x ls j g d r) (omega arith) e (omega arith)

turns : {levels : ℕ} (n m : ℕ) (x : Walk) (ls : List ℕ) → Walks levels x ls 16 → x.slot ≡ 15 → x.ending ≡ 0
    → 16 * x.rounds + x.slot ≡ 16 + n → deepest x.marks ≡ m → Stage levels (suc n) (turned x m) ls
unfolding turned levels_of
turns n zero x ls g h e c d = ends_with (suc n) 1 16 x ls (omega arith) g
turns {levels} n (suc j) x ls g h e c d = go (ltb x.rounds most) refl
  where
    most : ℕ
    most = most_rounds (length x.marks)

    go : (b : Bool) → ltb x.rounds most ≡ b → Stage levels (suc n) (cond b (opened x j) (ended 4 x)) ls
    go true f = opens n j x ls g h e c d (ltb-true x.rounds most f)
    go false f = ends_with (suc n) 4 16 x ls (omega arith) g

-- a slot that ends nothing at once
passes : {levels : ℕ} (n : ℕ) (x : Walk) (ls : List ℕ) → Walks levels x ls (suc x.slot) → x.slot < 16 → x.ending ≡ 0
    → 16 * x.rounds + x.slot ≡ 16 + n → Stage levels (suc n) (passed x) ls
unfolding passed
passes {levels} n x ls g h e c = go (ltb x.slot 15) refl
  where
    go : (b : Bool) → ltb x.slot 15 ≡ b → Stage levels (suc n) (cond b (at_next_slot x) (turned x (deepest x.marks))) ls
    go true f = moves n x ls g (ltb-true x.slot 15 f) e c
    go false f =
        let after : 15 ≤ x.slot = ltb-false x.slot 15 f in
        let last : x.slot ≡ 15 = omega arith in
        turns n (deepest x.marks) x ls (subst (λ (t : ℕ). Walks levels x ls t) (ap suc last) g) last e c refl

-- any slot whose UID fits, where a place for it is one of 64
pub after_slot : {levels : ℕ} (n : ℕ) (w : Walk) (ls ls' : List ℕ) (s : Slot) (place : Bool) → Walks levels w ls w.slot → w.slot < 16
    → w.ending ≡ 0 → 16 * w.rounds + w.slot ≡ 16 + n → Fits w s → (place ≡ true → w.count < 64) → Lists s place ls ls'
    → Stage levels (suc n) (walk_after w s place) ls'
unfolding walk_after
after_slot {levels} n w ls ls' s place g h e c f few l = go (eqb (ends_at_once w s place) 0) refl
  where
    go : (b : Bool) → eqb (ends_at_once w s place) 0 ≡ b → Stage levels (suc n) (cond b (passed (noted w s)) (ended (ends_at_once w s place) w)) ls'
    go true d =
        let x : Walk = noted w s in
        let same : x.slot ≡ w.slot = (noted_kept w s).slot in
        passes n x ls'
        (subst (λ (t : ℕ). Walks levels x ls' (suc t)) (sym same) (note_walks w ls ls' s place h g few (eqb-true (ends_at_once w s place) 0 d) f l))
        (rw same h) (noted_ending w s ∙ e) (rw ((noted_kept w s).rounds, same) c)
    go false d =
        let ends : ends_at_once w s place ≡ 0 → ⊥ = eqb-false (ends_at_once w s place) 0 d in
        ends_with (suc n) (ends_at_once w s place) w.slot w ls' ends
        (ending_walks w ls ls' w.slot g (λ v. omega (arith, l v, ending_added v w s place ends)))
