-- 01, Examples: "an empty field: complete, rounds 1"; the numbers of 02, W6, in figures: 417, 13 and E0 of a walk of fourteen levels; and those of 01's
-- walk of sixteen.
use Rattle.std.specs.Prelude.{◌≡◌, List, [], true, ◌&&◌, ℕ, zero, suc, ◌+◌, ◌*◌, ◌/◌, ◌^◌, ◌≤◌, ◌<◌, leb, ltb, eqb, length}
use Rattle.walk.specs.declared.Walk.{Walk}
use Rattle.walk.specs.declared.Kind.TheVariants.{Silence, Bytes}
use Rattle.walk.specs.declared.Slot.TheVariants.{Silent, Clashed, Clean}
use Rattle.walk.specs.Marks.{levels, deepest}
use Rattle.walk.specs.Record.{levels_of, most_rounds, most_slots, whole_mask, complete, twins, full, overrun, is_accepted, ended, counted, marked, opened, no_marks, started_of, started}
use Rattle.walk.specs.Ask.{request}
use Rattle.walk.specs.Hear.{uid_of, starts_e0, judged, has_place, passed, walk_after, Hearing, hearing}

-- n silent slots heard one after another, with a list
unfoldable pub silent_slots : ℕ → Walk → List ℕ → Hearing
silent_slots zero w list = record { walk = w; list = list; number = 0 }
silent_slots (suc n) w list = hearing (silent_slots n w list).walk Silence [] (silent_slots n w list).list

-- a fresh walk at a later slot of its first round, and at its end
abbrev pub at_slot : ℕ → ℕ → ℕ → Walk
at_slot family slot ending =
    record { mask_low = 0; mask_high = 0; marks = no_marks levels; rounds = 1; family = family; level = 0; slot = slot; count = 0; ending = ending }

pub record Walks : Type 0 where
  -- "an empty field: complete, rounds 1": with any family, nothing listed
  pub empty_field : (family : ℕ) (list : List ℕ) → 64 ≤ length list
      → silent_slots 16 (started family) list ≡ record { walk = at_slot family 15 complete; list = list; number = 0 }
  -- "the limit is 417 rounds": overrun comes not after round 416, but after 417
  pub round_417_opens : (w : Walk) (j : ℕ) → levels_of w ≡ 14 → w.slot ≡ 15 → w.rounds ≡ 416 → deepest w.marks ≡ suc j → walk_after w Silent (has_place w) ≡ opened w j
  pub round_418_overruns : (w : Walk) (j : ℕ) → levels_of w ≡ 14 → w.slot ≡ 15 → w.rounds ≡ 417 → deepest w.marks ≡ suc j → walk_after w Silent (has_place w) ≡ ended overrun w
  -- "full (a clean UID with 64 listed, at once)"
  pub place_64_taken : (w : Walk) (uid : ℕ) → w.count ≡ 63 → walk_after w (Clean uid) (has_place w) ≡ passed (counted w)
  pub no_place_65 : (w : Walk) (uid : ℕ) → w.count ≡ 64 → walk_after w (Clean uid) (has_place w) ≡ ended full w
  -- "a clash at mask length 34 is twins": level 13, and not level 12
  pub level_12_marked : (w : Walk) → levels_of w ≡ 14 → w.level ≡ 12 → walk_after w Clashed (has_place w) ≡ passed (marked w)
  pub level_13_twins : (w : Walk) → levels_of w ≡ 14 → 4 * w.level ≡ 0x34 → walk_after w Clashed (has_place w) ≡ ended twins w
  -- "a clean reply whose UID doesn't start with E0 is a clash": bytes with any other UID, however many are listed
  pub fourteen_starts_e0 : (uid : ℕ) → starts_e0 14 uid ≡ eqb (uid / 2 ^ 56) 0xe0
  pub foreign_clashes : (w : Walk) (bytes : List ℕ) → levels_of w ≡ 14 → (uid_of bytes / 2 ^ 56 ≡ 0xe0 → ⊥) → judged w Bytes bytes ≡ Clashed
  pub foreign_not_full : (w : Walk) (bytes : List ℕ) → levels_of w ≡ 14 → (uid_of bytes / 2 ^ 56 ≡ 0xe0 → ⊥) → w.level ≡ 12 → w.count ≡ 64
      → walk_after w (judged w Bytes bytes) (has_place w) ≡ passed (marked w)
  pub foreign_twins : (w : Walk) (bytes : List ℕ) → levels_of w ≡ 14 → (uid_of bytes / 2 ^ 56 ≡ 0xe0 → ⊥) → w.level ≡ 13 → w.count ≡ 64
      → walk_after w (judged w Bytes bytes) (has_place w) ≡ ended twins w
  -- "walk record: level or slot over 15, list count over 64, rounds 0 or over 481, mask bits above its length (4 × level), a clash mark at a level
  -- deeper than its own or at the last level", and "10 now says level over 13 and rounds over 417"
  pub number_10 : (w : Walk) → levels_of w ≡ 14 → is_accepted w ≡ (leb w.level 13 && (leb w.slot 15 && (leb w.count 64
      && (leb 1 w.rounds && (leb w.rounds 417 && (ltb (whole_mask w) (2 ^ (4 * w.level))
      && (leb (deepest w.marks) (w.level + 1) && ltb (deepest w.marks) 14)))))))
  -- "fourteen levels", and sixteen slots in each of 417 rounds
  pub fourteen_levels : (family : ℕ) → levels_of (started family) ≡ 14
  pub fourteen_most_rounds : most_rounds 14 ≡ 417
  -- "at most 1 + 15 × (n / 2 rounded down)", with 64 cards and a level more than these 15; 02's 13 likewise
  pub rounds_of_levels : (n : ℕ) → most_rounds (n + 1) ≡ 1 + n * (64 / 2)
  pub fourteen_most_slots : most_slots 14 ≡ 16 * 417
  -- its longest request, of mask length 34 and with a family, has a byte less than the 14 that number 8 asks for
  pub longest_request : (w : Walk) → levels_of w ≡ 14 → is_accepted w ≡ true → length (request w) ≤ 13
  -- 01's walk: "its 16 levels", "481 for 64", "overrun (round 482 would be needed)", "twins (a clash at k=15, at once)", number 10 as it was; and of a UID of
  -- 64 bits nothing is above its levels
  pub sixteen_levels : (family : ℕ) → levels_of (started_of 16 family) ≡ 16
  pub sixteen_most_rounds : most_rounds 16 ≡ 481
  pub sixteen_481_opens : (w : Walk) (j : ℕ) → levels_of w ≡ 16 → w.slot ≡ 15 → w.rounds ≡ 480 → deepest w.marks ≡ suc j → walk_after w Silent (has_place w) ≡ opened w j
  pub sixteen_482_overruns : (w : Walk) (j : ℕ) → levels_of w ≡ 16 → w.slot ≡ 15 → w.rounds ≡ 481 → deepest w.marks ≡ suc j → walk_after w Silent (has_place w) ≡ ended overrun w
  pub sixteen_14_marked : (w : Walk) → levels_of w ≡ 16 → w.level ≡ 14 → walk_after w Clashed (has_place w) ≡ passed (marked w)
  pub sixteen_15_twins : (w : Walk) → levels_of w ≡ 16 → w.level ≡ 15 → walk_after w Clashed (has_place w) ≡ ended twins w
  pub sixteen_number_10 : (w : Walk) → levels_of w ≡ 16 → is_accepted w ≡ (leb w.level 15 && (leb w.slot 15 && (leb w.count 64
      && (leb 1 w.rounds && (leb w.rounds 481 && (ltb (whole_mask w) (2 ^ (4 * w.level))
      && (leb (deepest w.marks) (w.level + 1) && ltb (deepest w.marks) 16)))))))
  pub sixteen_takes_all : (uid : ℕ) → uid < 2 ^ 64 → starts_e0 16 uid ≡ true
