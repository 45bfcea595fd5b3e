-- What holds of a walk from its start on, whatever it hears: number 10 accepts it, and no slot waits that is still to be heard.
-- By the ways in which a slot changes the walk. Assumes nothing.
use mathlib.Core.Path.{◌≡◌, ◌∙◌}
use mathlib.Core.Bool.{Bool, true}
use Prim.Native.Nat.{ℕ, suc, ◌+◌, ◌^◌, ◌≤◌, ◌<◌}
use native.Mathlib.Omega.{arith}
use lib.ListN.{length, get_or}
use Rattle.tails.proofs.Digits.{digits_of_bits}
use Rattle.walk.specs.declared.Walk.{Walk}
use Rattle.walk.specs.declared.Slot.{Slot}
use Rattle.walk.specs.declared.Slot.TheVariants.{Silent, Clashed, Clean}
use Rattle.walk.specs.Marks.{with_mark, without_mark, lowest, deepest}
use Rattle.walk.specs.Record.{most_rounds, mask_length, whole_mask, remade, started_of, no_marks, counted, marked, at_next_slot, opened_at, opened}
use Rattle.walk.specs.Hear.{ends_at_once, noted}
use Rattle.walk.proofs.Limits.{Accepted}
use Rattle.walk.proofs.Accepted.{started_facts, noted_facts, next_slot_facts, opened_facts}
use Rattle.field.proofs.Waiting.{wait, wait_none, wait_marked_slot, wait_level, mark_fits, unmark_fits, deepest_below, deepest_last}
use Rattle.field.proofs.Levels.{no_mark, set_fits}

-- about to hear slot t of its round
pub record Steady (w : Walk) (t : ℕ) : Type 0 where
  pub accepted : Accepted w
  pub marks_fit : (j : ℕ) → get_or w.marks j 0 < 65536
  pub none_ahead : (s : ℕ) → t ≤ s → s < 16 → wait w.marks w.level s ≡ 0

-- the mask as a tail
pub mask_tail : {w : Walk} {t : ℕ} → Steady w t → whole_mask w < 16 ^ w.level
unfolding mask_length
mask_tail {w} h = rw (digits_of_bits w.level) at h.accepted.mask

-- ---- the start

pub start_steady : (levels family : ℕ) → 1 ≤ levels → Steady (started_of levels family) 0
unfolding started_of
start_steady levels family h =
    record {
      accepted = started_facts levels family h;
      marks_fit = λ j. rw (no_mark levels j) (omega arith);
      none_ahead = λ s p q. wait_none (no_marks levels) 0 s (no_mark levels 0);
    }

-- ---- a slot that ends nothing at once: silent, clean, or a clash that is marked

-- where a place for a clean UID is one of 64
pub noted_steady : (w : Walk) (slot : Slot) (place : Bool) → (place ≡ true → w.count < 64) → w.slot < 16 → ends_at_once w slot place ≡ 0
    → Steady w w.slot → Steady (noted w slot) (suc w.slot)
unfolding noted counted marked remade
noted_steady w Silent place few a e h =
    record {
      accepted = h.accepted;
      marks_fit = h.marks_fit;
      none_ahead = λ s p q. h.none_ahead s (omega arith) q;
    }
noted_steady w Clashed place few a e h =
    let level : ℕ = w.level in
    let new : ℕ = with_mark (get_or w.marks level 0) w.slot in
    let within : level < length w.marks = h.accepted.level in
    record {
      accepted = noted_facts w h.accepted place few Clashed e;
      marks_fit = set_fits w.marks level new within (mark_fits (get_or w.marks level 0) w.slot (h.marks_fit level) a) h.marks_fit;
      none_ahead = λ s p q. wait_marked_slot w.marks level w.slot s within (λ e. absurd (omega arith)) ∙ h.none_ahead s (omega arith) q;
    }
noted_steady w (Clean u) place few a e h =
    record {
      accepted = noted_facts w h.accepted place few (Clean u) e;
      marks_fit = h.marks_fit;
      none_ahead = λ s p q. h.none_ahead s (omega arith) q;
    }

pub next_steady : (w : Walk) (t : ℕ) → w.slot < 15 → Steady w t → Steady (at_next_slot w) t
unfolding at_next_slot remade
next_steady w t a h =
    record {
      accepted = next_slot_facts w h.accepted a;
      marks_fit = h.marks_fit;
      none_ahead = h.none_ahead;
    }

-- ---- a round is opened

pub open_steady : (w : Walk) (j : ℕ) → deepest w.marks ≡ suc j → w.rounds < most_rounds (length w.marks) → Steady w 16 → Steady (opened w j) 0
unfolding opened opened_at remade
open_steady w j g r h =
    let new : ℕ = without_mark (get_or w.marks j 0) (lowest (get_or w.marks j 0)) in
    let within : j < length w.marks = deepest_below w.marks j g in
    record {
      accepted = opened_facts w h.accepted j g r;
      marks_fit = set_fits w.marks j new within (unmark_fits (get_or w.marks j 0) (lowest (get_or w.marks j 0)) (h.marks_fit j)) h.marks_fit;
      none_ahead =
          λ i p q. wait_level w.marks j new (j + 1) i (λ e. absurd (omega arith))
          ∙ wait_none w.marks (j + 1) i (deepest_last w.marks (j + 1) (omega arith));
    }
