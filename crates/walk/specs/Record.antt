-- 01, The walk, and 02, W6: the record, which ones number 10 refuses, and each way in which it changes.
use Rattle.std.specs.Prelude.{ℕ, ◌+◌, ◌-◌, ◌*◌, ◌/◌, ◌%◌, ◌^◌, Bool, ◌&&◌, List, leb, ltb, eqb, length, get_or, set, replicate}
use Rattle.walk.specs.declared.Walk.{Walk}
use Rattle.walk.specs.Marks.{levels, with_mark, without_mark, lowest, deepest}

-- "A walk has .. a list of 64 UIDs"
unfoldable pub places : ℕ
places = 64

-- "for each of its 16 levels, which slots clashed and wait": it has a level for each number of its marks
unfoldable pub levels_of : Walk → ℕ
levels_of w = length w.marks

-- "overrun (round 482 would be needed)"; 02, W6: "the limit is 417 rounds": of a walk of n levels it is 1 + (n - 1) × (64 / 2), 417 for 14, and 01's
-- "481 for 64" for 16
unfoldable pub most_rounds : ℕ → ℕ
most_rounds n = 32 * n - 31

-- "Slots 0 to 15 are then heard": so many slots in all rounds of n levels together
unfoldable pub most_slots : ℕ → ℕ
most_slots n = 16 * most_rounds n

-- "mask length 4k", in bits
unfoldable pub mask_length : ℕ → ℕ
mask_length level = 4 * level

-- the mask: the record has its low and its high 32 bits, so that C's is 44 bytes long, a multiple of four and not of eight
unfoldable pub whole_mask : Walk → ℕ
whole_mask w = w.mask_low + w.mask_high * 2 ^ 32

unfoldable pub low_half : ℕ → ℕ
low_half mask = mask % 2 ^ 32

unfoldable pub high_half : ℕ → ℕ
high_half mask = mask / 2 ^ 32

-- ---- "Endings: complete .., twins .., full .., overrun": the values of the field ending. 0 is no ending, and what is none of these is overrun too

abbrev pub running : ℕ
running = 0

abbrev pub complete : ℕ
complete = 1

abbrev pub twins : ℕ
twins = 2

abbrev pub full : ℕ
full = 3

abbrev pub overrun : ℕ
overrun = 4

unfoldable pub is_running : Walk → Bool
is_running w = eqb w.ending running

-- "A walk has a family (none, or an AFI byte)": from 256 on it is none
unfoldable pub has_family : Walk → Bool
has_family w = ltb w.family 256

-- ---- Numbers of refused calls, 10

-- "a clash mark at a level deeper than its own or at the last level"
unfoldable pub marks_fit : List ℕ → ℕ → Bool
marks_fit marks level = leb (deepest marks) (level + 1) && ltb (deepest marks) (length marks)

-- "walk record: level or slot over 15, list count over 64, rounds 0 or over 481, mask bits above its length (4 × level), a clash mark .."; 02, W6: "10
-- now says level over 13 and rounds over 417": 13 and 417 where the levels are 14
unfoldable pub is_accepted : Walk → Bool
is_accepted w =
    ltb w.level (levels_of w)
    && (leb w.slot 15
    && (leb w.count places
    && (leb 1 w.rounds
    && (leb w.rounds (most_rounds (levels_of w))
    && (ltb (whole_mask w) (2 ^ mask_length w.level) && marks_fit w.marks w.level)))))

-- ---- the changes: the family never does

unfoldable pub remade : Walk → ℕ → ℕ → List ℕ → ℕ → ℕ → ℕ → ℕ → ℕ → Walk
remade w low high marks rounds level slot count ending =
    record {
      mask_low = low;
      mask_high = high;
      marks = marks;
      rounds = rounds;
      family = w.family;
      level = level;
      slot = slot;
      count = count;
      ending = ending;
    }

-- "An ending changes only the ending itself: level, mask, slot, marks, list and rounds stay as that slot found them"
unfoldable pub ended : ℕ → Walk → Walk
ended ending w = remade w w.mask_low w.mask_high w.marks w.rounds w.level w.slot w.count ending

-- a UID more is listed
unfoldable pub counted : Walk → Walk
counted w = remade w w.mask_low w.mask_high w.marks w.rounds w.level w.slot (w.count + 1) w.ending

-- the slot clashed, and waits
unfoldable pub marked : Walk → Walk
marked w =
    remade w w.mask_low w.mask_high (set w.marks w.level (with_mark (get_or w.marks w.level 0) w.slot)) w.rounds w.level w.slot w.count
    w.ending

unfoldable pub at_next_slot : Walk → Walk
at_next_slot w = remade w w.mask_low w.mask_high w.marks w.rounds w.level (w.slot + 1) w.count w.ending

-- "its mask being the slot digit above the old mask": slot s of level j, whose mask has j digits
unfoldable pub opened_mask : ℕ → ℕ → ℕ → ℕ
opened_mask mask j s = mask % 2 ^ mask_length j + s * 2 ^ mask_length j

-- "opens the lowest unopened clash" of level j: a round more, one level deeper, from slot 0 on
unfoldable pub opened_at : Walk → ℕ → ℕ → Walk
opened_at w j s =
    remade w (low_half (opened_mask (whole_mask w) j s)) (high_half (opened_mask (whole_mask w) j s)) (set w.marks j (without_mark (get_or w.marks j 0) s)) (w.rounds + 1) (j + 1) 0 w.count w.ending

unfoldable pub opened : Walk → ℕ → Walk
opened w j = opened_at w j (lowest (get_or w.marks j 0))

-- no slot of n levels waits
unfoldable pub no_marks : ℕ → List ℕ
no_marks n = replicate n 0

-- "a round count starting at 1", with no mask, no mark and an empty list: a walk of n levels
unfoldable pub started_of : ℕ → ℕ → Walk
started_of n family =
    record { mask_low = 0; mask_high = 0; marks = no_marks n; rounds = 1; family = family; level = 0; slot = 0; count = 0; ending = running }

-- a fresh walk has 02's fourteen levels
unfoldable pub started : ℕ → Walk
started family = started_of levels family
