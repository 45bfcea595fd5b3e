-- Each slot that waits is one that two or more UIDs of a fixed field end in: kept by marking such a slot and by opening one.
-- By the levels that change. Assumes nothing.
use mathlib.Core.Path.{◌≡◌, sym, ap, ◌∙◌}
use mathlib.Core.Bool.{true}
use Prim.Native.Nat.{ℕ, suc, ◌%◌, ◌^◌, ◌≤◌, ◌<◌}
use native.Mathlib.Decide.{ℕ_discrete, dec_le}
use native.Mathlib.Nat.{mod-lt, mod-eq_of_lt}
use native.Mathlib.Omega.{arith}
use mathlib.Core.List.{List}
use lib.ListN.{length, get_or, set}
use Rattle.tails.specs.Tails.{is_shared}
use Rattle.tails.proofs.Digits.{power_positive, tail_tail, above_tail}
use Rattle.walk.specs.declared.Walk.{Walk}
use Rattle.walk.specs.Marks.{with_mark, without_mark, lowest, deepest}
use Rattle.walk.specs.Record.{whole_mask, no_marks, opened_mask, remade, marked, opened_at, opened}
use Rattle.walk.proofs.Limits.{mask_opened}
use Rattle.field.proofs.Waiting.{wait, wait_marked_slot, wait_opened, wait_opened_slot, wait_level, wait_none, wait_lowest, deepest_mark, deepest_below, deepest_last}
use Rattle.field.proofs.Levels.{no_mark, opened_mask_lem}
use Rattle.field.proofs.Steady.{Steady, mask_tail}
use Rattle.field.proofs.WaitSums.{slot_tail}

unfoldable pub Crowded : List ℕ → List ℕ → ℕ → Type 0
Crowded us marks mask = (j s : ℕ) → wait marks j s ≡ 1 → is_shared us (suc j) (slot_tail j (mask % 16 ^ j) s) ≡ true

-- no slot waits at the start
pub start_crowded : (us : List ℕ) (levels mask : ℕ) → Crowded us (no_marks levels) mask
unfolding Crowded
start_crowded us levels mask j s waits =
    let none : wait (no_marks levels) j s ≡ 0 = wait_none (no_marks levels) j s (no_mark levels j) in
    absurd (omega arith)

pub marked_crowded : (us : List ℕ) (w : Walk) → w.slot < 16 → Steady w w.slot → Crowded us w.marks (whole_mask w)
    → is_shared us (suc w.level) (slot_tail w.level (whole_mask w) w.slot) ≡ true → Crowded us (marked w).marks (whole_mask w)
unfolding marked remade Crowded
marked_crowded us w h steady old here j s waits = level (ℕ_discrete j w.level)
  where
    inside : w.level < length w.marks
    inside = steady.accepted.level

    slot : j ≡ w.level → Dec (s ≡ w.slot) → is_shared us (suc j) (slot_tail j (whole_mask w % 16 ^ j) s) ≡ true
    slot e (yes f) = rw (e, f, mod-eq_of_lt (mask_tail steady)) here
    slot e (no f) =
        let before : wait w.marks w.level s ≡ 1 =
        sym (wait_marked_slot w.marks w.level w.slot s inside f)
        ∙ ap (λ (i : ℕ). wait (set w.marks w.level (with_mark (get_or w.marks w.level 0) w.slot)) i s) (sym e)
        ∙ waits in
        old j s (ap (λ (i : ℕ). wait w.marks i s) e ∙ before)

    level : Dec (j ≡ w.level) → is_shared us (suc j) (slot_tail j (whole_mask w % 16 ^ j) s) ≡ true
    level (yes e) = slot e (ℕ_discrete s w.slot)
    level (no e) =
        let same = wait_level w.marks w.level (with_mark (get_or w.marks w.level 0) w.slot) j s e in
        old j s (sym same ∙ waits)

-- the slot that is opened is crowded
pub opened_shared : (us : List ℕ) (w : Walk) (j : ℕ) → Steady w 16 → deepest w.marks ≡ suc j → Crowded us w.marks (whole_mask w)
    → is_shared us (suc j) (whole_mask (opened w j)) ≡ true
unfolding opened opened_at remade Crowded
opened_shared us w j steady deep old =
    rw (mask_opened w j, opened_mask_lem (whole_mask w) j (lowest (get_or w.marks j 0)))
    (old j (lowest (get_or w.marks j 0)) (wait_lowest w.marks j (steady.marks_fit j) (deepest_mark w.marks j deep)))

pub opened_crowded : (us : List ℕ) (w : Walk) (j : ℕ) → Steady w 16 → deepest w.marks ≡ suc j → Crowded us w.marks (whole_mask w)
    → Crowded us (opened w j).marks (whole_mask (opened w j))
unfolding opened opened_at remade Crowded
opened_crowded us w j steady deep old i s waits = rw (mask_opened w j) (level (ℕ_discrete i j))
  where
    t : ℕ
    t = lowest (get_or w.marks j 0)

    inside : j < length w.marks
    inside = deepest_below w.marks j deep

    tails : i ≤ j → opened_mask (whole_mask w) j t % 16 ^ i ≡ whole_mask w % 16 ^ i
    tails g =
        rw (opened_mask_lem (whole_mask w) j t, above_tail j (whole_mask w % 16 ^ j) t i (mod-lt (whole_mask w) (power_positive j)) g)
        (tail_tail (whole_mask w) i j g)

    kept : i ≤ j → wait w.marks i s ≡ 1 → is_shared us (suc i) (slot_tail i (opened_mask (whole_mask w) j t % 16 ^ i) s) ≡ true
    kept g before = rw (tails g) (old i s before)

    slot : i ≡ j → Dec (s ≡ t) → is_shared us (suc i) (slot_tail i (opened_mask (whole_mask w) j t % 16 ^ i) s) ≡ true
    slot e (yes f) =
        let now : wait (set w.marks j (without_mark (get_or w.marks j 0) t)) i s ≡ 0 = rw (e, f) (wait_opened w.marks j t inside) in
        let one : wait (set w.marks j (without_mark (get_or w.marks j 0) t)) i s ≡ 1 = waits in
        absurd (omega arith)
    slot e (no f) =
        let same : wait (set w.marks j (without_mark (get_or w.marks j 0) t)) i s ≡ wait w.marks i s =
        rw e (wait_opened_slot w.marks j t s inside f) in
        kept (omega arith) (sym same ∙ waits)

    other : wait w.marks i s ≡ 1 → Dec (i ≤ j) → is_shared us (suc i) (slot_tail i (opened_mask (whole_mask w) j t % 16 ^ i) s) ≡ true
    other before (yes g) = kept g before
    other before (no g) =
        let none : wait w.marks i s ≡ 0 = wait_none w.marks i s (deepest_last w.marks i (omega arith)) in
        absurd (omega arith)

    level : Dec (i ≡ j) → is_shared us (suc i) (slot_tail i (opened_mask (whole_mask w) j t % 16 ^ i) s) ≡ true
    level (yes e) = slot e (ℕ_discrete s t)
    level (no e) =
        let same : wait (set w.marks j (without_mark (get_or w.marks j 0) t)) i s ≡ wait w.marks i s =
        wait_level w.marks j (without_mark (get_or w.marks j 0) t) i s e in
        other (sym same ∙ waits) (dec_le i j)
