-- The examples of the walk, by computation and by the tests of the definitions: the empty field, the numbers 417, 64 and 13 of the endings, a UID
-- that does not begin with E0, and number 10, rounds and slots of a walk of fourteen levels. Assumes nothing.
use mathlib.Core.Path.{◌≡◌, refl, ap, ◌∙◌}
use mathlib.Core.Bool.{true, false, ◌&&◌, and-false}
use mathlib.Core.List.{List, []}
use Prim.Native.Nat.{ℕ, zero, suc, ◌+◌, ◌*◌, ◌/◌, ◌^◌, ◌≤◌, ◌<◌}
use native.Mathlib.Decide.{dec_le}
use native.Mathlib.Numerals.{add-one}
use native.Mathlib.Omega.{arith}
use borrow.Author.Tests.{le-leb, lt-ltb, lt-leb, le-ltb, eq-eqb, ne_eqb}
use lib.Dec.{leb, ltb, eqb}
use lib.ListN.{length}
use Rattle.slots.specs.Fits.{mask_bytes}
use Rattle.walk.specs.declared.Walk.{Walk}
use Rattle.walk.specs.declared.Kind.TheVariants.{Silence, Bytes}
use Rattle.walk.specs.declared.Slot.TheVariants.{Silent, Clashed}
use Rattle.walk.specs.Marks.{levels, deepest_of, deepest}
use Rattle.walk.specs.Record.{places, levels_of, most_rounds, most_slots, mask_length, whole_mask, complete, is_running, marks_fit, is_accepted}
use Rattle.walk.specs.Record.{remade, ended, at_next_slot, no_marks, started_of, started}
use Rattle.walk.specs.Hear.{uid_of, starts_e0, is_clean, judged, has_place, ends_at_once, noted, list_noted, turned, passed, walk_after, list_after, refusal, Hearing, hearing}
use Rattle.walk.specs.Ask.{request}
use Rattle.walk.specs.Examples.{silent_slots, at_slot, Walks}
use Rattle.walk.proofs.Limits.{accepted_of_is_accepted}
use Rattle.walk.proofs.Requests.{length_head_most, length_request}

-- the slots of the first round
slot_accepted : (family slot : ℕ) → slot ≤ 15 → is_accepted (at_slot family slot 0) ≡ true
unfolding is_accepted marks_fit deepest deepest_of levels no_marks levels_of places most_rounds mask_length whole_mask
slot_accepted family slot h = rw (le-leb slot 15 h)

-- one silent slot
silent_next : (family slot : ℕ) (list : List ℕ) → 64 ≤ length list → slot < 15
    → hearing (at_slot family slot 0) Silence [] list ≡ record { walk = at_slot family (suc slot) 0; list = list; number = 0 }
unfolding hearing refusal places is_running judged ends_at_once walk_after list_after noted list_noted passed at_next_slot remade
silent_next family slot list h k =
    rw (slot_accepted family slot (omega arith), le-leb 64 (length list) h, lt-ltb slot 15 k, add-one slot)

silent_last : (family : ℕ) (list : List ℕ) → 64 ≤ length list
    → hearing (at_slot family 15 0) Silence [] list ≡ record { walk = at_slot family 15 complete; list = list; number = 0 }
unfolding hearing refusal places is_running judged ends_at_once walk_after list_after noted list_noted passed turned deepest deepest_of levels no_marks levels_of ended remade
silent_last family list h = rw (slot_accepted family 15 (omega arith), le-leb 64 (length list) h)

silent_slots_lem : (family n : ℕ) (list : List ℕ) → 64 ≤ length list → n ≤ 15
    → silent_slots n (started family) list ≡ record { walk = at_slot family n 0; list = list; number = 0 }
unfolding silent_slots started started_of
silent_slots_lem family zero list h k = refl
silent_slots_lem family (suc n) list h k =
    ap (λ (x : Hearing). hearing x.walk Silence [] x.list) (silent_slots_lem family n list h (omega arith))
    ∙ silent_next family n list h (omega arith)

all_silent : (family : ℕ) (list : List ℕ) → 64 ≤ length list
    → silent_slots 16 (started family) list ≡ record { walk = at_slot family 15 complete; list = list; number = 0 }
unfolding silent_slots
all_silent family list h =
    ap (λ (x : Hearing). hearing x.walk Silence [] x.list) (silent_slots_lem family 15 list h (omega arith)) ∙ silent_last family list h

last_slot : (w : Walk) → w.slot ≡ 15 → walk_after w Silent (has_place w) ≡ turned w (deepest w.marks)
unfolding walk_after ends_at_once noted passed
last_slot w e = rw e

fourteen : (family : ℕ) → levels_of (started family) ≡ 14
unfolding levels_of started started_of no_marks levels
fourteen family = refl

limit : most_rounds 14 ≡ 417
unfolding most_rounds
limit = refl

sixteen_limit : most_rounds 16 ≡ 481
unfolding most_rounds
sixteen_limit = refl

limit_of : (n : ℕ) → most_rounds (n + 1) ≡ 1 + n * (64 / 2)
unfolding most_rounds
limit_of n = omega arith

slots : most_slots 14 ≡ 16 * 417
unfolding most_slots
slots = rw limit

-- below n + 1 is at most n
ltb_suc : (a n : ℕ) → ltb a (suc n) ≡ leb a n
ltb_suc a n = go (dec_le a n)
  where
    go : Dec (a ≤ n) → ltb a (suc n) ≡ leb a n
    go (yes h) = rw (lt-ltb a (suc n) (omega arith), le-leb a n h)
    go (no h) = rw (le-ltb a (suc n) (omega arith), lt-leb a n (omega arith))

tests : (w : Walk) → levels_of w ≡ 14 → is_accepted w ≡ (leb w.level 13 && (leb w.slot 15 && (leb w.count 64
    && (leb 1 w.rounds && (leb w.rounds 417 && (ltb (whole_mask w) (2 ^ (4 * w.level))
    && (leb (deepest w.marks) (w.level + 1) && ltb (deepest w.marks) 14)))))))
unfolding is_accepted marks_fit places mask_length levels_of
tests w l = rw (l, limit, ltb_suc w.level 13)

sixteen : (family : ℕ) → levels_of (started_of 16 family) ≡ 16
unfolding levels_of started_of no_marks
sixteen family = refl

sixteen_tests : (w : Walk) → levels_of w ≡ 16 → is_accepted w ≡ (leb w.level 15 && (leb w.slot 15 && (leb w.count 64
    && (leb 1 w.rounds && (leb w.rounds 481 && (ltb (whole_mask w) (2 ^ (4 * w.level))
    && (leb (deepest w.marks) (w.level + 1) && ltb (deepest w.marks) 16)))))))
unfolding is_accepted marks_fit places mask_length levels_of
sixteen_tests w l = rw (l, sixteen_limit, ltb_suc w.level 15)

longest : (w : Walk) → levels_of w ≡ 14 → is_accepted w ≡ true → length (request w) ≤ 13
unfolding levels_of mask_length mask_bytes
longest w l e =
    let level : w.level < length w.marks = (accepted_of_is_accepted w e).level in
    omega (arith, length_request w, length_head_most w, level, l)

-- ---- a UID that does not begin with E0

starts : (uid : ℕ) → starts_e0 14 uid ≡ eqb (uid / 2 ^ 56) 0xe0
unfolding starts_e0
starts uid = refl

foreign : (w : Walk) (bytes : List ℕ) → levels_of w ≡ 14 → (uid_of bytes / 2 ^ 56 ≡ 0xe0 → ⊥) → judged w Bytes bytes ≡ Clashed
unfolding judged is_clean
foreign w bytes l h =
    let none : starts_e0 (levels_of w) (uid_of bytes) ≡ false = rw l (starts (uid_of bytes) ∙ ne_eqb (uid_of bytes / 2 ^ 56) 0xe0 h) in
    rw (none, and-false, and-false, and-false, and-false)

sixteen_all : (uid : ℕ) → uid < 2 ^ 64 → starts_e0 16 uid ≡ true
unfolding starts_e0
sixteen_all uid h = eq-eqb (uid / 2 ^ 64) 0 (omega arith)

level_13 : (w : Walk) → 4 * w.level ≡ 0x34 → w.level ≡ 13
level_13 w e = omega (arith, e)

pub walks : Walks
unfolding walk_after has_place ends_at_once noted turned places
walks =
    record {
      empty_field = all_silent;
      round_417_opens = λ w j l s r d. last_slot w s ∙ rw (d, l, limit, r);
      round_418_overruns = λ w j l s r d. last_slot w s ∙ rw (d, l, limit, r);
      place_64_taken = λ w uid e. rw e;
      no_place_65 = λ w uid e. rw e;
      level_12_marked = λ w l e. rw (l, e);
      level_13_twins = λ w l e. rw (l, level_13 w e);
      fourteen_starts_e0 = starts;
      foreign_clashes = foreign;
      foreign_not_full = λ w bytes l h e c. rw (foreign w bytes l h, l, e);
      foreign_twins = λ w bytes l h e c. rw (foreign w bytes l h, l, e);
      number_10 = tests;
      fourteen_levels = λ family. fourteen family;
      fourteen_most_rounds = limit;
      rounds_of_levels = λ n. limit_of n;
      fourteen_most_slots = slots;
      longest_request = longest;
      sixteen_levels = sixteen;
      sixteen_most_rounds = sixteen_limit;
      sixteen_481_opens = λ w j l s r d. last_slot w s ∙ rw (d, l, sixteen_limit, r);
      sixteen_482_overruns = λ w j l s r d. last_slot w s ∙ rw (d, l, sixteen_limit, r);
      sixteen_14_marked = λ w l e. rw (l, e);
      sixteen_15_twins = λ w l e. rw (l, e);
      sixteen_number_10 = sixteen_tests;
      sixteen_takes_all = sixteen_all;
    }
