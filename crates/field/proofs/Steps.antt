-- A slot of a fixed field: the walk goes on, or it ends complete, twins or full, with what each means.
-- By the tests of hearing, one after the other. Assumes nothing.
use mathlib.Core.Path.{◌≡◌, refl, ap, subst, ◌∙◌}
use mathlib.Core.Bool.{Bool, true, false, cond}
use Prim.Native.Nat.{ℕ, zero, suc, ◌+◌, ◌-◌, ◌*◌, ◌%◌, ◌^◌, ◌≤◌, ◌<◌}
use native.Mathlib.Numerals.{add-one}
use native.Mathlib.Omega.{arith}
use mathlib.Core.List.{List, [], ◌∷◌}
use borrow.Author.Tests.{ltb-true, ltb-false, lt-ltb, eqb-true, eqb-false}
use lib.Dec.{ltb, eqb}
use lib.ListN.{length}
use Rattle.tails.specs.Sum.{tally, times}
use Rattle.tails.specs.Tails.{ending}
use Rattle.tails.proofs.Tally.{tally_one}
use Rattle.tails.proofs.Apart.{ending_head, ending_alike}
use Rattle.walk.specs.declared.Walk.{Walk}
use Rattle.walk.specs.declared.Slot.{Slot}
use Rattle.walk.specs.Marks.{deepest}
use Rattle.walk.specs.Record.{whole_mask, levels_of, most_rounds, complete, twins, full, remade, ended, at_next_slot, opened_at, opened}
use Rattle.walk.specs.Hear.{ends_at_once, noted, turned, passed, walk_after}
use Rattle.field.proofs.WaitSums.{slot_tail}
use Rattle.field.proofs.Ahead.{ahead, ahead_none, ahead_hear}
use Rattle.field.proofs.Weights.{weigh, below_at}
use Rattle.field.proofs.AnyReplies.{alone, Lists, ending_added}
use Rattle.field.proofs.FixedField.{Fixed, ending_fixed, note_fixed, next_fixed, open_fixed}
use Rattle.field.proofs.NoOverrun.{rounds_below}
use Rattle.field.proofs.Called.{called, slot_of}
use Rattle.field.proofs.CalledWeights.{slot_weight}
use Rattle.field.proofs.Next.{Suits, suits_apart, Verdict, completes, twin, fills, Kept, Next, moves, opens, stops, kept, noted_kept, noted_ending}

-- the next slot
moves_after : {levels fewest : ℕ} (us : List ℕ) (w x : Walk) (ls : List ℕ) → x.slot ≡ w.slot → Fixed levels us x ls (suc w.slot) → Kept w x
    → x.ending ≡ w.ending → x.slot < 15 → Next levels fewest us w (at_next_slot x) ls
unfolding at_next_slot remade whole_mask
moves_after us w x ls s g k e h =
    moves (next_fixed us x ls (suc w.slot) h g) (rw (← s) h) k.level k.mask (add-one x.slot ∙ ap suc s) k.family e k.rounds

-- the next round
opens_after : {levels fewest : ℕ} (us : List ℕ) (w x : Walk) (ls : List ℕ) → w.slot ≡ 15 → Fixed levels us x ls 16 → Kept w x → x.ending ≡ w.ending
    → (j : ℕ) → deepest x.marks ≡ suc j → x.rounds < most_rounds (length x.marks) → Next levels fewest us w (opened x j) ls
unfolding opened opened_at remade
opens_after us w x ls h g k e j d f =
    opens (open_fixed us x ls j g d f) h refl k.family e (add-one x.rounds ∙ ap suc k.rounds)

-- a round is over and nothing waits
completes_after : {levels fewest : ℕ} (us : List ℕ) (w x : Walk) (ls : List ℕ) → Fixed levels us x ls 16 → Kept w x → deepest x.marks ≡ 0
    → Next levels fewest us w (ended complete x) ls
unfolding ended remade
completes_after {levels} {fewest} us w x ls g k d =
    let verdict : Verdict levels fewest us (ended complete x) ls =
    completes refl g.walks.steady.accepted.count
    (omega (arith, g.weighed (λ u. 1), ahead_none (weigh (λ u. 1) us) x d, tally_one ls, g.walks.number, tally_one us))
    (λ v. let none = ahead_none (weigh v us) x d in omega (arith, none, g.weighed v))
    (λ u. let most : times u ls + ahead (alone u) x 16 ≤ 1 = g.walks.single u in omega arith)
    (let none = ahead_none (below_at levels us) x d in omega (arith, none, g.tails)) in
    stops g k 0 refl verdict

-- a round is over: the next one is opened, since no round over the limit is ever needed
turns : {levels fewest : ℕ} (us : List ℕ) (w x : Walk) (ls : List ℕ) → levels ≤ 16 → w.slot ≡ 15 → Fixed levels us x ls 16 → Kept w x
    → x.ending ≡ w.ending → (n : ℕ) → deepest x.marks ≡ n → Next levels fewest us w (turned x n) ls
unfolding turned levels_of
turns us w x ls most h g k e zero d = completes_after us w x ls g k d
turns {levels} us w x ls most h g k e (suc j) d =
    let deep : 2 ≤ levels = omega (arith, g.walks.steady.accepted.last_level, g.walks.marks_length) in
    let listed : length ls ≤ 64 = omega (arith, g.walks.number, g.walks.steady.accepted.count) in
    let few : x.rounds < most_rounds (length x.marks) =
    rw g.walks.marks_length (rounds_below us ls x levels deep most listed g.weighed g.tails) in
    rw (lt-ltb x.rounds (most_rounds (length x.marks)) few) (opens_after us w x ls h g k e j d few)

-- the slot ends nothing at once
passes : {levels fewest : ℕ} (us : List ℕ) (w x : Walk) (ls : List ℕ) → levels ≤ 16 → w.slot < 16 → Fixed levels us x ls (suc w.slot) → Kept w x
    → x.ending ≡ w.ending → Next levels fewest us w (passed x) ls
unfolding passed
passes {levels} {fewest} us w x ls most h g k e = go (ltb x.slot 15) refl
  where
    go : (b : Bool) → ltb x.slot 15 ≡ b → Next levels fewest us w (cond b (at_next_slot x) (turned x (deepest x.marks))) ls
    go true f = moves_after us w x ls k.slot g k e (ltb-true x.slot 15 f)
    go false f =
        let after : 15 ≤ x.slot = ltb-false x.slot 15 f in
        let last : w.slot ≡ 15 = let same = k.slot in omega (arith, same) in
        turns us w x ls most last (subst (λ (t : ℕ). Fixed levels us x ls t) (ap suc last) g) k e (deepest x.marks) refl

-- a clean UID without a place: the slot's own weight is one more than those listed
fills_at : {levels fewest : ℕ} (us : List ℕ) (x : ℕ) (w : Walk) (ls : List ℕ) → w.slot < 16 → Fixed levels us w ls w.slot → called us w ≡ x ∷ []
    → fewest ≤ w.count → Next levels fewest us w (ended full w) ls
unfolding ended remade tally
fills_at us x w ls h g c m =
    let v : ℕ → ℕ = λ u. 1 in
    let all : tally v ls + ahead (weigh v us) w w.slot ≡ tally v us = g.weighed v in
    let heard = ahead_hear (weigh v us) w w.slot h in
    let weight : weigh v us (suc w.level) (slot_tail w.level (whole_mask w) w.slot) ≡ 1 = slot_weight v us (x ∷ []) w c in
    let listed : tally v ls ≡ w.count = tally_one ls ∙ g.walks.number in
    let number : tally v us ≡ length us = tally_one us in
    stops g (kept w) 2 refl (fills refl (omega (arith, all, heard, weight, listed, number)))

-- a clash at the last level: the slot's tail has all the digits that tell the UIDs apart
twins_at : {levels fewest : ℕ} (us : List ℕ) (x y : ℕ) (xs : List ℕ) (w : Walk) (ls : List ℕ) → Suits levels us → w.slot < 16
    → Fixed levels us w ls w.slot → called us w ≡ x ∷ y ∷ xs → length w.marks ≤ w.level + 1 → Next levels fewest us w (ended twins w) ls
unfolding ended remade whole_mask called
twins_at {levels} us x y xs w ls suits h g c m =
    let tail : ℕ = slot_tail w.level (whole_mask w) w.slot in
    let last : levels ≡ suc w.level = let least = g.walks.steady.accepted.level in omega (arith, least, g.walks.marks_length) in
    let same : ending levels tail us ≡ x ∷ y ∷ xs = ap (λ (n : ℕ). ending n tail us) last ∙ c in
    let alike : times x us ≡ length (ending levels tail us) = ending_alike us (y ∷ xs) levels tail x (suits_apart suits) same in
    let two : length (ending levels tail us) ≡ suc (suc (length xs)) = ap (λ (l : List ℕ). length l) same in
    let before : levels - 1 ≡ w.level = omega (arith, last) in
    let told : x % 16 ^ suc (levels - 1) ≡ whole_mask w + w.slot * 16 ^ (levels - 1) =
    rw before (ending_head (suc w.level) tail x us (y ∷ xs) c) in
    stops g (kept w) 1 refl (twin refl (record { uid = x; twice = omega (arith, alike, two); told = told }))

-- it ends the walk at once
stops_at_once : {levels fewest : ℕ} (us xs : List ℕ) (w : Walk) (ls : List ℕ) (place : Bool) → Suits levels us → w.slot < 16
    → Fixed levels us w ls w.slot → (place ≡ false → fewest ≤ w.count) → called us w ≡ xs → (ends_at_once w (slot_of xs) place ≡ 0 → ⊥)
    → Next levels fewest us w (ended (ends_at_once w (slot_of xs) place) w) ls
unfolding slot_of ends_at_once levels_of
stops_at_once us [] w ls place suits h g least c s = absurd (s refl)
stops_at_once us (x ∷ []) w ls true suits h g least c s = absurd (s refl)
stops_at_once us (x ∷ []) w ls false suits h g least c s = fills_at us x w ls h g c (least refl)
stops_at_once {levels} {fewest} us (x ∷ y ∷ xs) w ls place suits h g least c s = go (ltb (w.level + 1) (length w.marks)) refl s
  where
    go : (b : Bool) → ltb (w.level + 1) (length w.marks) ≡ b → (◌≡◌ {A = ℕ} (cond b 0 2) 0 → ⊥) → Next levels fewest us w (ended (cond b 0 2) w) ls
    go true e f = absurd (f refl)
    go false e f = twins_at us x y xs w ls suits h g c (ltb-false (w.level + 1) (length w.marks) e)

-- a slot, where a place for a clean UID is one of 64, and there is none only with the fewest listed
pub slot_next : {levels : ℕ} (fewest : ℕ) (us : List ℕ) (w : Walk) (ls ls' : List ℕ) (place : Bool) → Suits levels us → w.slot < 16
    → Fixed levels us w ls w.slot → (place ≡ true → w.count < 64) → (place ≡ false → fewest ≤ w.count)
    → Lists (slot_of (called us w)) place ls ls' → Next levels fewest us w (walk_after w (slot_of (called us w)) place) ls'
unfolding walk_after
slot_next {levels} fewest us w ls ls' place suits h g few least l = go (eqb (ends_at_once w s place) 0) refl
  where
    s : Slot
    s = slot_of (called us w)

    go : (b : Bool) → eqb (ends_at_once w s place) 0 ≡ b → Next levels fewest us w (cond b (passed (noted w s)) (ended (ends_at_once w s place) w)) ls'
    go true e =
        passes us w (noted w s) ls' suits.most h (note_fixed us w ls ls' place h g few (eqb-true (ends_at_once w s place) 0 e) l) (noted_kept w s)
        (noted_ending w s)
    go false e =
        let ends : ends_at_once w s place ≡ 0 → ⊥ = eqb-false (ends_at_once w s place) 0 e in
        let same : Fixed levels us w ls' w.slot = ending_fixed us w ls ls' w.slot g (λ v. omega (arith, l v, ending_added v w s place ends)) in
        stops_at_once us (called us w) w ls' place suits h same least refl ends
