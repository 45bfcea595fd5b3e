-- What an accepted record is, test by test, both ways; how far an opened mask reaches, and what mask each change leaves. By the tests of the definition.
-- Assumes nothing.
use mathlib.Core.Path.{◌≡◌, refl, sym}
use mathlib.Core.Bool.{Bool, true, ◌&&◌, and_assoc, and-eq-true_iff}
use Prim.Native.Nat.{ℕ, ◌+◌, ◌*◌, ◌%◌, ◌^◌, ◌≤◌, ◌<◌}
use native.Mathlib.Nat.{mod-lt, mul-le-mul_right}
use native.Mathlib.Omega.{arith}
use borrow.Author.Tests.{leb-true, ltb-true, le-leb, lt-ltb}
use lib.Dec.{leb, ltb}
use lib.ListN.{length, get_or}
use lib.Pow.{pow_pos, pow_mono, pow-add}
use Rattle.walk.specs.declared.Walk.{Walk}
use Rattle.walk.specs.Marks.{lowest, deepest}
use Rattle.walk.specs.Record.{whole_mask, low_half, high_half, places, levels_of, most_rounds, mask_length, marks_fit, is_accepted, opened_mask}
use Rattle.walk.specs.Record.{remade, ended, counted, marked, at_next_slot, opened_at, opened, started_of}

-- a mask is its low and its high half
pub halves_whole : (m : ℕ) → low_half m + high_half m * 2 ^ 32 ≡ m
unfolding low_half high_half
halves_whole m = omega arith

pub record Accepted (w : Walk) : Type 0 where
  pub level : w.level < length w.marks
  pub slot : w.slot ≤ 15
  pub count : w.count ≤ 64
  pub first_round : 1 ≤ w.rounds
  pub last_round : w.rounds ≤ most_rounds (length w.marks)
  pub mask : whole_mask w < 2 ^ mask_length w.level
  pub own_level : deepest w.marks ≤ w.level + 1
  pub last_level : deepest w.marks < length w.marks

pub accepted_of_is_accepted : (w : Walk) → is_accepted w ≡ true → Accepted w
unfolding is_accepted marks_fit levels_of places
accepted_of_is_accepted w e =
    let t1 = (and-eq-true_iff (ltb w.level (length w.marks)) _).0 e in
    let t2 = (and-eq-true_iff (leb w.slot 15) _).0 t1.1 in
    let t3 = (and-eq-true_iff (leb w.count 64) _).0 t2.1 in
    let t4 = (and-eq-true_iff (leb 1 w.rounds) _).0 t3.1 in
    let t5 = (and-eq-true_iff (leb w.rounds (most_rounds (length w.marks))) _).0 t4.1 in
    let t6 = (and-eq-true_iff (ltb (whole_mask w) (2 ^ mask_length w.level)) _).0 t5.1 in
    let t7 = (and-eq-true_iff (leb (deepest w.marks) (w.level + 1)) (ltb (deepest w.marks) (length w.marks))).0 t6.1 in
    record {
      level = ltb-true w.level (length w.marks) t1.0;
      slot = leb-true w.slot 15 t2.0;
      count = leb-true w.count 64 t3.0;
      first_round = leb-true 1 w.rounds t4.0;
      last_round = leb-true w.rounds (most_rounds (length w.marks)) t5.0;
      mask = ltb-true (whole_mask w) (2 ^ mask_length w.level) t6.0;
      own_level = leb-true (deepest w.marks) (w.level + 1) t7.0;
      last_level = ltb-true (deepest w.marks) (length w.marks) t7.1;
    }

-- a mask's length is a byte
pub level_few : (w : Walk) → length w.marks ≡ 14 → is_accepted w ≡ true → w.level < 16
level_few w long h = omega (arith, long, (accepted_of_is_accepted w h).level)

-- the tests on slot, count and rounds, and all of them after the level's
abbrev pub numbers_fit : Walk → Bool
numbers_fit w = leb w.slot 15 && leb w.count 64 && leb 1 w.rounds && leb w.rounds (most_rounds (length w.marks))

pub is_accepted_by_tests : (w : Walk) → w.level < length w.marks
    → is_accepted w ≡ (numbers_fit w && (ltb (whole_mask w) (2 ^ mask_length w.level) && marks_fit w.marks w.level))
unfolding is_accepted levels_of places
is_accepted_by_tests w h = rw (lt-ltb w.level (length w.marks) h) (sym (simp and_assoc))

pub is_accepted_of_accepted : (w : Walk) → Accepted w → is_accepted w ≡ true
unfolding is_accepted marks_fit levels_of places
is_accepted_of_accepted w a =
    rw (
      lt-ltb w.level (length w.marks) a.level,
      le-leb w.slot 15 a.slot,
      le-leb w.count 64 a.count,
      le-leb 1 w.rounds a.first_round,
      le-leb w.rounds (most_rounds (length w.marks)) a.last_round,
      lt-ltb (whole_mask w) (2 ^ mask_length w.level) a.mask,
      le-leb (deepest w.marks) (w.level + 1) a.own_level,
      lt-ltb (deepest w.marks) (length w.marks) a.last_level,
    )

-- of a walk of 16 levels at the most: a level that a mask of 60 bits serves, and rounds of three digits
pub level_most : {w : Walk} → Accepted w → length w.marks ≤ 16 → w.level < 16
level_most a h = omega (arith, a.level, h)

pub rounds_most : {w : Walk} → Accepted w → length w.marks ≤ 16 → w.rounds ≤ 481
unfolding most_rounds
rounds_most a h = omega (arith, a.last_round, h)

-- the digit above 14 digits at the most is within 60 bits, and so is what stands below it
pub unit_most : (j : ℕ) → j < 15 → 2 ^ (4 * j) ≤ 2 ^ 56
unit_most j h = pow_mono {i = 4 * j} {j = 56} (omega arith)

pub low_digits_most : (v j : ℕ) → j < 15 → v % 2 ^ (4 * j) < 2 ^ 56
low_digits_most v j h = omega (arith, mod-lt v (pow_pos (4 * j)), unit_most j h)

pub digit_most : (p s : ℕ) → s < 16 → s * p ≤ 15 * p
digit_most p s h = mul-le-mul_right p (omega arith)

-- the digit above j digits: within j + 1 digits
pub digit_fits : (v p s : ℕ) → 0 < p → s < 16 → v % p + s * p < 16 * p
digit_fits v p s h k =
    let rest : v % p < p = mod-lt v h in
    omega (arith, digit_most p s k)

pub opened_mask_fits : (mask j s : ℕ) → s < 16 → opened_mask mask j s < 2 ^ mask_length (j + 1)
unfolding opened_mask mask_length
opened_mask_fits mask j s h =
    let longer : 4 * (j + 1) ≡ 4 + 4 * j = omega arith in
    rw (longer, pow-add 2 4 (4 * j)) (digit_fits mask (2 ^ (4 * j)) s (pow_pos (4 * j)) h)

-- ---- the mask of the record that a change leaves

pub mask_ended : (ending : ℕ) (w : Walk) → whole_mask (ended ending w) ≡ whole_mask w
unfolding ended remade whole_mask
mask_ended ending w = refl

pub mask_counted : (w : Walk) → whole_mask (counted w) ≡ whole_mask w
unfolding counted remade whole_mask
mask_counted w = refl

pub mask_marked : (w : Walk) → whole_mask (marked w) ≡ whole_mask w
unfolding marked remade whole_mask
mask_marked w = refl

pub mask_next : (w : Walk) → whole_mask (at_next_slot w) ≡ whole_mask w
unfolding at_next_slot remade whole_mask
mask_next w = refl

pub mask_opened : (w : Walk) (j : ℕ) → whole_mask (opened w j) ≡ opened_mask (whole_mask w) j (lowest (get_or w.marks j 0))
unfolding opened opened_at remade whole_mask
mask_opened w j = halves_whole (opened_mask (whole_mask w) j (lowest (get_or w.marks j 0)))

pub mask_started : (levels family : ℕ) → whole_mask (started_of levels family) ≡ 0
unfolding started_of whole_mask
mask_started levels family = refl
