-- Lock bytes that are 0 or 1, told from the highest so far and from what is left at a place. By the tests of the bytes.
-- Assumes nothing.
use mathlib.Core.Path.{◌≡◌}
use mathlib.Core.Bool.{◌&&◌, and_assoc, and-true}
use mathlib.Core.List.{List}
use Prim.Native.Nat.{ℕ, ◌+◌, max, ◌≤◌, ◌<◌}
use native.Mathlib.Numerals.{add-one}
use native.Mathlib.Omega.{arith}
use native.Mathlib.Decide.{dec_le}
use borrow.Author.Tests.{le-leb, lt-leb}
use lib.Dec.{leb}
use lib.ListN.{length, drop, get_or, drop_of_length-le}
use lib.Seq.{drop-cons}
use Rattle.play.specs.Refusal.{locks_fit}

-- two bytes fit where the higher does
higher_fits : (a b : ℕ) → leb (max a b) 1 ≡ (leb a 1 && leb b 1)
higher_fits a b = go (dec_le (max a b) 1)
  where
    go : Dec (max a b ≤ 1) → leb (max a b) 1 ≡ (leb a 1 && leb b 1)
    go (yes g) = rw (le-leb (max a b) 1 g, le-leb a 1 (omega arith), le-leb b 1 (omega arith))
    go (no g) = rw (lt-leb (max a b) 1 (omega arith)) (grind arith)

pub locks_next : (locks : List ℕ) (i highest : ℕ) → i < length locks → (leb highest 1 && locks_fit (drop i locks)) ≡ locks_fit locks
    → (leb (max highest (get_or locks i 0)) 1 && locks_fit (drop (i + 1) locks)) ≡ locks_fit locks
unfolding locks_fit
locks_next locks i highest h p = rw (higher_fits highest (get_or locks i 0), and_assoc, add-one) (rw (drop-cons locks i 0 h) at p)

pub locks_past : (locks : List ℕ) (i highest : ℕ) → length locks ≤ i → (leb highest 1 && locks_fit (drop i locks)) ≡ locks_fit locks
    → leb highest 1 ≡ locks_fit locks
unfolding locks_fit
locks_past locks i highest h p = rw (drop_of_length-le locks h, and-true) at p
