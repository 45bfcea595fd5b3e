-- Steps of private functions, for their promises alone: not to be held against the paper.
use Rattle.std.specs.Prelude.{ℕ, ◌+◌, ◌*◌, ◌/◌, ◌%◌, cond, ◌||◌, leb, ltb, List, Option, Some, None}
use Rattle.coil.specs.declared.decoder.Decoded.{Decoded}
use Rattle.coil.specs.declared.decoder.Decoded.TheVariants.{Clash, Lost}
use Rattle.coil.specs.Decoder.{pair_at, is_clash, is_lost}

-- the later unit of each pair of a track byte, the earliest lowest
unfoldable pub four_bits : ℕ → ℕ
four_bits b = b / 64 % 2 + 2 * (b / 16 % 2) + 4 * (b / 4 % 2) + 8 * (b % 2)

-- 1 for a pair that is bad
unfoldable pub flaw : ℕ → ℕ
flaw pair = cond (is_clash pair || is_lost pair) 1 0

-- the flaws of a track byte's four pairs, each in the later unit of its pair
unfoldable pub flaws : ℕ → ℕ
flaws b = 64 * flaw (b / 64 % 4) + 16 * flaw (b / 16 % 4) + 4 * flaw (b / 4 % 4) + flaw (b % 4)

-- the first pair that flaws name; the last where they name none
unfoldable pub first_of : ℕ → ℕ
first_of flaws = cond (leb 64 flaws) 0 (cond (leb 16 flaws) 1 (cond (leb 4 flaws) 2 3))

-- the first bad bit of n, where the first number that was looked for is below n
unfoldable pub found_in : ℕ → ℕ → Option ℕ
found_in n k = cond (ltb k n) (Some k) None

-- what a bad bit is
unfoldable pub bad_bit : List ℕ → ℕ → Decoded
bad_bit t k = cond (is_clash (pair_at t k)) (Clash k) (Lost k)
