-- Demand 3: what a walk that has ended says of the cards that answer it. One record for a field of cards and for the bench's row.
use Rattle.std.specs.Prelude.{ℕ, suc, ◌+◌, ◌*◌, ◌/◌, ◌%◌, ◌^◌, ◌≤◌, ◌<◌, false, List, ◌≡◌, length, take}
use Rattle.tails.specs.Sum.{times}
use Rattle.tails.specs.Tails.{shared_tails_to}
use Rattle.walk.specs.declared.Walk.{Walk}
use Rattle.walk.specs.Record.{whole_mask, complete, twins, full, is_running}

-- "no two of these share a UID"
unfoldable pub Different : List ℕ → Type 0
Different us = (u : ℕ) → times u us ≤ 1

-- 02, W6: "every answering UID begins with E0": the first of its eight bytes
unfoldable pub BeginE0 : List ℕ → Type 0
BeginE0 us = (u : ℕ) → 1 ≤ times u us → u / 2 ^ 56 ≡ 0xe0

-- "Clean UIDs are listed as heard.": the first of the list, as many as the walk counts
unfoldable pub listed : Walk → List ℕ → List ℕ
listed w list = take w.count list

-- a UID that two or more of them have, whose last digits mask and slot tell
pub record Twins (digits : ℕ) (us : List ℕ) (w : Walk) : Type 0 where
  pub uid : ℕ
  pub twice : 2 ≤ times uid us
  pub told : uid % 16 ^ suc digits ≡ whole_mask w + w.slot * 16 ^ digits

-- the walk w and its list at the end; us are the UIDs that count: in demand 3 those of the cards that answer its family. The tails
-- that count have at most so many digits: 13 below, in `Found`
pub record FoundIn (digits : ℕ) (us : List ℕ) (w : Walk) (list : List ℕ) : Type 0 where
  pub ends : is_running w ≡ false
  -- "The walk ends complete exactly if at most 64 cards answer its family and no two of these share a UID."
  pub few : w.ending ≡ complete → length us ≤ 64
  pub different : w.ending ≡ complete → Different us
  pub completes : length us ≤ 64 → Different us → w.ending ≡ complete
  -- "The list then holds each of them once"; and nothing else, as the walk counts just as many
  pub each_once : w.ending ≡ complete → (u : ℕ) → times u (listed w list) ≡ times u us
  pub count : w.ending ≡ complete → w.count ≡ length us
  -- "the round count is exactly one more than the number of tails .., that two or more of them share"
  pub rounds : w.ending ≡ complete → w.rounds ≡ 1 + shared_tails_to digits us
  -- 01: "For n cards with different UIDs rounds are at most 1 + 15 × (n / 2 rounded down)", with 13 for 15
  pub rounds_most : w.ending ≡ complete → w.rounds ≤ 1 + digits * (length us / 2)
  -- 01: "With at most 64 answering, two alike end in twins, always."
  pub alike : length us ≤ 64 → (Different us → ⊥) → w.ending ≡ twins
  -- 01: "Above 64 the ending is twins or full"
  pub many : 64 < length us → (w.ending ≡ full → ⊥) → w.ending ≡ twins
  -- 02, W6: "a clash at mask length 34 is twins": only where some UID stands twice among those that answer, and the record tells which
  pub twins_alike : w.ending ≡ twins → Twins digits us w
  -- 01: "full (a clean UID with 64 listed, at once)": only where more than 64 answer
  pub full_many : w.ending ≡ full → 64 < length us
  -- 01: "overrun needs false replies": the endings are complete, twins and full
  pub no_overrun : w.ending ≤ full

-- 02, W6: "tails of 1 to 13 digits"
abbrev pub Found : List ℕ → Walk → List ℕ → Type 0
Found us w list = FoundIn 13 us w list
