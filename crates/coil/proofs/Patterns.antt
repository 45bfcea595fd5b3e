-- Pairs, bits and flaws of a byte: the shifts and masks of the code give the sums of the definitions. Each by one computed test over all bytes.
-- Assumes nothing.
use mathlib.Core.Path.{◌≡◌, refl}
use Prim.Native.Nat.{ℕ, ◌*◌, ◌/◌, ◌%◌, ◌<◌}
use lib.Bits.{bit_and, bit_or, bit_xor}
use lib.Dec.{eqb}
use borrow.Author.Tests.{eqb-true}
use Rattle.lent.proofs.Every.{every, every_at}
use Rattle.coil.specs.Track.{pair_of, half}
use Rattle.coil.specs.Steps.{four_bits, flaw, flaws}

-- the lowest four bits of v, each in the later unit of its pair, as the code shifts them
abbrev pub spread : ℕ → ℕ
spread v = bit_or (bit_or (bit_or (bit_and v 1 * 64 % 256) (bit_and v 2 * 8 % 256)) (bit_and v 4)) (bit_and v 8 / 8)

-- 10, turned over where the bit is 1
abbrev pub turned : ℕ → ℕ
turned v = bit_xor 0xaa (bit_or (spread v) (spread v * 2 % 256))

pub turned_half : (v : ℕ) → v < 256 → turned v ≡ half v
unfolding every half pair_of
turned_half v h = eqb-true (turned v) (half v) (every_at 256 (λ k. eqb (turned k) (half k)) refl v h)

abbrev pub gathered : ℕ → ℕ
gathered b = bit_or (bit_or (bit_or (bit_and (b / 64) 1) (bit_and (b / 8) 2)) (bit_and b 4)) (bit_and b 1 * 8 % 256)

pub gathered_bits : (b : ℕ) → b < 256 → gathered b ≡ four_bits b
unfolding every four_bits
gathered_bits b h = eqb-true (gathered b) (four_bits b) (every_at 256 (λ k. eqb (gathered k) (four_bits k)) refl b h)

abbrev pub level : ℕ → ℕ
level b = bit_and (bit_xor (bit_xor b (b / 2)) 0x55) 0x55

pub level_flaws : (b : ℕ) → b < 256 → level b ≡ flaws b
unfolding every flaws flaw
level_flaws b h = eqb-true (level b) (flaws b) (every_at 256 (λ k. eqb (level k) (flaws k)) refl b h)
