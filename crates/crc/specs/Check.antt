-- 01, Check and byte order. The calculation is that of Annex C of ISO/IEC 15693-3, bit by bit.
use Rattle.std.specs.Prelude.{ℕ, zero, suc, ◌+◌, ◌-◌, ◌/◌, ◌%◌, ◌^◌, Bool, ◌&&◌, cond, List, [], ◌∷◌, ◌++◌, leb, eqb, length, get_or, take}
use Rattle.std.specs.Int.Bits.{bit_xor}

-- "bits least significant first": the register's top bit stands for x^0, each bit below it for the next power, bit 0 for x^15; x^16 is the bit that leaves
abbrev pub power : ℕ → ℕ
power n = 2 ^ (15 - n)

-- "polynomial x^16+x^12+x^5+1": what is put over the register where x^16 leaves it. That is 8408
abbrev pub polynomial : ℕ
polynomial = power 12 + power 5 + power 0

-- "preset FFFF"
abbrev pub preset : ℕ
preset = 0xffff

-- the lowest bit leaves the register x; where it is 1 the polynomial is put over the rest
unfoldable pub shifted : ℕ → ℕ
shifted x = cond (eqb (x % 2) 1) (bit_xor (x / 2) polynomial) (x / 2)

-- n bits leave
unfoldable pub shifts : ℕ → ℕ → ℕ
shifts zero x = x
shifts (suc n) x = shifts n (shifted x)

-- a byte b is put over the register's low byte, and its eight bits leave
unfoldable pub taken : ℕ → ℕ → ℕ
taken x b = shifts 8 (bit_xor x b)

-- all bytes, the first first
unfoldable pub register : ℕ → List ℕ → ℕ
register x [] = x
register x (b ∷ bs) = register (taken x b) bs

-- "result complemented"
unfoldable pub check_of : List ℕ → ℕ
check_of bs = 0xffff - register preset bs

-- "low byte first": the two bytes that are sent
unfoldable pub check_bytes : List ℕ → List ℕ
check_bytes bs = check_of bs % 256 ∷ check_of bs / 256 ∷ []

-- "It covers all bytes from the flags on and stands last": a message with its check appended
unfoldable pub sealed : List ℕ → List ℕ
sealed bs = bs ++ check_bytes bs

-- the two bytes are the check x, low byte first
unfoldable pub is_check : ℕ → ℕ → ℕ → Bool
is_check x low high = eqb low (x % 256) && eqb high (x / 256)

-- a message whose last two bytes are the check of the rest
unfoldable pub is_sealed : List ℕ → Bool
is_sealed m =
    let rest : ℕ = length m - 2 in
    leb 2 (length m) && is_check (check_of (take rest m)) (get_or m rest 0) (get_or m (length m - 1) 0)
