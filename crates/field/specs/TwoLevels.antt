-- 02, W6: "fourteen levels in place of sixteen": 01's walk of sixteen levels beside a fresh one, over the same cards, and that nothing is lost.
use Rattle.std.specs.Prelude.{ℕ, ◌*◌, ◌/◌, ◌%◌, ◌^◌, ◌≤◌, List, ◌≡◌, length}
use Rattle.tails.specs.Sum.{times}
use Rattle.walk.specs.Record.{complete}
use Rattle.play.specs.Life.{Tag}
use Rattle.field.specs.Field.{answering}
use Rattle.field.specs.Played.{Play, played_for, fresh_of, fresh}
use Rattle.field.specs.Found.{BeginE0, listed}
use Rattle.field.specs.Demand.{AllObey, Demand3In}

-- "Two different such UIDs differ within their low 56 bits"
unfoldable pub LowBitsTell : Type 0
LowBitsTell = (u v : ℕ) → u / 2 ^ 56 ≡ 0xe0 → v / 2 ^ 56 ≡ 0xe0 → u % 2 ^ 56 ≡ v % 2 ^ 56 → u ≡ v

-- demand 3 as 01 has it, of sixteen levels and whatever the UIDs begin with: "tails of 1 to 15 digits"
unfoldable pub SixteenLevels : Type 0
SixteenLevels =
    (family : ℕ) (tags : List Tag) (list room : List ℕ) → AllObey tags → 64 ≤ length list → 14 ≤ length room
    → Demand3In 15 family tags (answering family tags) (played_for (16 * 481) (fresh_of 16 family list room tags))

-- "no walk of them that ends complete opens mask length 38 or 3C": where it has ended so after some number of slots, its level is 13 at the most, mask
-- length 34, after every number of slots
unfoldable pub TwoLevelsTooMany : Type 0
TwoLevelsTooMany =
    (family : ℕ) (tags : List Tag) (list room : List ℕ) → AllObey tags → BeginE0 (answering family tags) → 64 ≤ length list → 14 ≤ length room
    → (m : ℕ) → (played_for m (fresh_of 16 family list room tags)).walk.ending ≡ complete
    → (n : ℕ) → (played_for n (fresh_of 16 family list room tags)).walk.level ≤ 13

-- "Then drop the two levels": the ends of both walks, us being the UIDs of the cards that answer
pub record SameFound (us : List ℕ) (fourteen sixteen : Play) : Type 0 where
  pub completes : sixteen.walk.ending ≡ complete → fourteen.walk.ending ≡ complete
  pub completed : fourteen.walk.ending ≡ complete → sixteen.walk.ending ≡ complete
  pub lists : fourteen.walk.ending ≡ complete
      → (u : ℕ) → times u (listed fourteen.walk fourteen.list) ≡ times u (listed sixteen.walk sixteen.list)
  pub count : fourteen.walk.ending ≡ complete → fourteen.walk.count ≡ sixteen.walk.count
  pub rounds : fourteen.walk.ending ≡ complete → fourteen.walk.rounds ≡ sixteen.walk.rounds
  -- above 64, twins can come where full came: a clash at mask length 34 ends the walk before the rest of its round is heard
  pub endings : length us ≤ 64 → fourteen.walk.ending ≡ sixteen.walk.ending

unfoldable pub NothingLost : Type 0
NothingLost =
    (family : ℕ) (tags : List Tag) (list room list' room' : List ℕ) → AllObey tags → BeginE0 (answering family tags)
    → 64 ≤ length list → 14 ≤ length room → 64 ≤ length list' → 14 ≤ length room'
    → SameFound (answering family tags) (played_for (16 * 417) (fresh family list room tags)) (played_for (16 * 481) (fresh_of 16 family list' room' tags))
