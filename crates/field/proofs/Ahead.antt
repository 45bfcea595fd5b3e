-- What lies ahead of a walk, weighed: the slots that wait and those still to be heard.
-- Hearing a slot takes its weight out, marking it puts it back, opening it takes it out again. Assumes nothing.
use mathlib.Core.Path.{◌≡◌, refl, sym, ◌∙◌}
use Prim.Native.Nat.{ℕ, suc, ◌+◌, ◌-◌, ◌%◌, ◌^◌, ◌≤◌, ◌<◌}
use native.Mathlib.Omega.{arith}
use mathlib.Core.List.{List}
use lib.ListN.{length, get_or, set, length-set}
use native.Mathlib.Nat.{zero-add, mod-lt, mod-eq_of_lt}
use Rattle.tails.specs.Sum.{tot}
use Rattle.tails.proofs.Digits.{power_positive, tail_tail, above_tail}
use Rattle.walk.specs.declared.Walk.{Walk}
use Rattle.walk.specs.Marks.{with_mark, without_mark, lowest, deepest}
use Rattle.walk.specs.Record.{whole_mask, opened_mask, remade, no_marks, started_of, counted, marked, at_next_slot, opened_at, opened}
use Rattle.walk.proofs.Levels.{lowest_is_slot}
use Rattle.walk.proofs.Limits.{mask_marked, halves_whole}
use Rattle.field.proofs.Waiting.{wait, wait_marked, wait_marked_slot, wait_opened, wait_opened_slot, wait_level, wait_none, wait_lowest}
use Rattle.field.proofs.Waiting.{deepest_none, deepest_below, deepest_mark, deepest_last}
use Rattle.field.proofs.Levels.{no_mark, opened_mask_lem}
use Rattle.field.proofs.Steady.{Steady, mask_tail}
use Rattle.field.proofs.WaitSums.{slot_tail, waiting, waiting_none, waiting_more, waiting_mask}

-- slots t to 15 of a round
unfoldable pub to_hear : (ℕ → ℕ → ℕ) → ℕ → ℕ → ℕ → ℕ
to_hear f j m t = tot (16 - t) t (λ s. f (suc j) (slot_tail j m s))

unfoldable pub ahead : (ℕ → ℕ → ℕ) → Walk → ℕ → ℕ
ahead f w t = waiting f w.marks (whole_mask w) + to_hear f w.level (whole_mask w) t

hear_none : (f : ℕ → ℕ → ℕ) (j m : ℕ) → to_hear f j m 16 ≡ 0
unfolding to_hear tot
hear_none f j m = refl

-- nothing waits at the start
pub ahead_start : (f : ℕ → ℕ → ℕ) (levels family : ℕ) → ahead f (started_of levels family) 0 ≡ to_hear f 0 0 0
unfolding ahead started_of whole_mask
ahead_start f levels family =
    let none : waiting f (no_marks levels) 0 ≡ 0 = waiting_none f (no_marks levels) 0 (λ j s. wait_none (no_marks levels) j s (no_mark levels j)) in
    rw none (zero-add (to_hear f 0 0 0))

-- slot t is heard
pub ahead_hear : (f : ℕ → ℕ → ℕ) (w : Walk) (t : ℕ) → t < 16 → ahead f w t ≡ f (suc w.level) (slot_tail w.level (whole_mask w) t) + ahead f w (suc t)
unfolding ahead to_hear tot
ahead_hear f w t h =
    let left : 16 - t ≡ suc (16 - suc t) = omega arith in
    rw left (omega arith)

-- a UID is listed, the slot moves on
pub ahead_counted : (f : ℕ → ℕ → ℕ) (w : Walk) (t : ℕ) → ahead f (counted w) t ≡ ahead f w t
unfolding ahead counted remade whole_mask
ahead_counted f w t = refl

pub ahead_next : (f : ℕ → ℕ → ℕ) (w : Walk) (t : ℕ) → ahead f (at_next_slot w) t ≡ ahead f w t
unfolding ahead at_next_slot remade whole_mask
ahead_next f w t = refl

-- the slot is marked
pub ahead_marked : (f : ℕ → ℕ → ℕ) (w : Walk) (t : ℕ) → w.slot < 16 → Steady w w.slot
    → ahead f (marked w) t ≡ f (suc w.level) (slot_tail w.level (whole_mask w) w.slot) + ahead f w t
unfolding ahead marked remade
ahead_marked f w t h g =
    let k : ℕ = w.level in
    let next : List ℕ = set w.marks k (with_mark (get_or w.marks k 0) w.slot) in
    let inside : k < length w.marks = g.accepted.level in
    let whole : whole_mask w % 16 ^ k ≡ whole_mask w = mod-eq_of_lt (mask_tail g) in
    let more : waiting f next (whole_mask w) ≡ f (suc k) (slot_tail k (whole_mask w % 16 ^ k) w.slot) + waiting f w.marks (whole_mask w) =
    waiting_more f w.marks next (whole_mask w) k w.slot (length-set w.marks k (with_mark (get_or w.marks k 0) w.slot)) inside h (g.none_ahead w.slot (omega arith) h) (wait_marked w.marks k w.slot inside)
    (λ s e. sym (wait_marked_slot w.marks k w.slot s inside e))
    (λ j s e. sym (wait_level w.marks k (with_mark (get_or w.marks k 0) w.slot) j s e)) in
    rw (mask_marked w, more, whole) (omega arith)

-- a slot that waits is opened: its tail is the new mask, and a round of sixteen slots is ahead
pub ahead_opened : (f : ℕ → ℕ → ℕ) (w : Walk) (j : ℕ) → Steady w 16 → deepest w.marks ≡ suc j
    → ahead f w 16 + to_hear f (suc j) (whole_mask (opened w j)) 0 ≡ f (suc j) (whole_mask (opened w j)) + ahead f (opened w j) 0
unfolding ahead opened opened_at remade whole_mask
ahead_opened f w j h g =
    let t : ℕ = lowest (get_or w.marks j 0) in
    let next : List ℕ = set w.marks j (without_mark (get_or w.marks j 0) t) in
    let tail : opened_mask (whole_mask w) j t ≡ slot_tail j (whole_mask w % 16 ^ j) t = opened_mask_lem (whole_mask w) j t in
    let inside : j < length w.marks = deepest_below w.marks j g in
    let long : length next ≡ length w.marks = length-set w.marks j (without_mark (get_or w.marks j 0) t) in
    let levels : (i s : ℕ) → (i ≡ j → ⊥) → wait next i s ≡ wait w.marks i s = wait_level w.marks j (without_mark (get_or w.marks j 0) t) in
    let more : waiting f w.marks (whole_mask w) ≡ f (suc j) (slot_tail j (whole_mask w % 16 ^ j) t) + waiting f next (whole_mask w) =
    waiting_more f next w.marks (whole_mask w) j t (sym long) (rw long inside) (lowest_is_slot (get_or w.marks j 0)) (wait_opened w.marks j t inside)
    (wait_lowest w.marks j (h.marks_fit j) (deepest_mark w.marks j g))
    (λ s e. wait_opened_slot w.marks j t s inside e) levels in
    let low : (i : ℕ) → i ≤ j → slot_tail j (whole_mask w % 16 ^ j) t % 16 ^ i ≡ whole_mask w % 16 ^ i =
    λ i e. above_tail j (whole_mask w % 16 ^ j) t i (mod-lt (whole_mask w) (power_positive j)) e ∙ tail_tail (whole_mask w) i j e in
    let none : (i s : ℕ) → j < i → wait w.marks i s ≡ 0 = λ i s a. wait_none w.marks i s (deepest_last w.marks i (omega arith)) in
    let same : waiting f next (whole_mask w) ≡ waiting f next (slot_tail j (whole_mask w % 16 ^ j) t) =
    waiting_mask f next (whole_mask w) (slot_tail j (whole_mask w % 16 ^ j) t) j (λ i e. sym (low i e)) (λ i s a. levels i s (λ e. absurd (omega arith)) ∙ none i s a) in
    let heard : to_hear f w.level (whole_mask w) 16 ≡ 0 = hear_none f w.level (whole_mask w) in
    let deeper : (opened w j).level ≡ suc j = omega arith in
    rw (deeper, halves_whole (opened_mask (whole_mask w) j t), tail, heard, more, same) (omega arith)

-- nothing waits: nothing is ahead after slot 15
pub ahead_none : (f : ℕ → ℕ → ℕ) (w : Walk) → deepest w.marks ≡ 0 → ahead f w 16 ≡ 0
unfolding ahead to_hear tot
ahead_none f w h = rw (waiting_none f w.marks (whole_mask w) (deepest_none w.marks h))
