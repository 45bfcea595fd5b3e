-- Laws of the register: it takes a message byte by byte, and part by part, and stays within sixteen bits.
-- By the definitions' own steps; what is put over the register has no more than sixteen bits. Assumes nothing.
use mathlib.Core.Path.{◌≡◌, refl}
use mathlib.Core.Bool.{Bool, true, false, cond}
use mathlib.Core.List.{List, [], ◌∷◌, ◌++◌}
use Prim.Native.Nat.{ℕ, zero, suc, ◌/◌, ◌%◌, ◌≤◌, ◌<◌}
use native.Mathlib.Omega.{arith}
use lib.Bits.{bit_xor, xor_lt}
use lib.Dec.{eqb}
use lib.ListN.{length, take, get_or}
use lib.Seq.{take-length}
use Rattle.std.specs.List.{fold}
use Rattle.crc.specs.Check.{preset, polynomial, shifted, shifts, taken, register}

-- byte by byte
pub register_folded : (x : ℕ) (bs : List ℕ) → fold taken x bs ≡ register x bs
unfolding register
register_folded x [] = refl
register_folded x (b ∷ bs) = register_folded (taken x b) bs

-- a message in two parts
pub register_append : (x : ℕ) (m bs : List ℕ) → register x (m ++ bs) ≡ register (register x m) bs
unfolding register
register_append x [] bs = refl
register_append x (a ∷ m) bs = register_append (taken x a) m bs

-- within sixteen bits it stays there when a bit leaves, when n bits leave, and when a byte goes in
pub shifted_fits : (x : ℕ) → x < 65536 → shifted x < 65536
unfolding shifted
shifted_fits x h = go (eqb (x % 2) 1)
  where
    go : (t : Bool) → cond t (bit_xor (x / 2) polynomial) (x / 2) < 65536
    go true = xor_lt 16 (x / 2) polynomial (omega arith) (omega arith)
    go false = omega arith

shifts_fit : (n x : ℕ) → x < 65536 → shifts n x < 65536
unfolding shifts
shifts_fit zero x h = h
shifts_fit (suc n) x h = shifts_fit n (shifted x) (shifted_fits x h)

pub taken_fits : (x b : ℕ) → x < 65536 → b < 256 → taken x b < 65536
unfolding taken
taken_fits x b h k = shifts_fit 8 (bit_xor x b) (xor_lt 16 x b h (omega arith))

-- and when the first n bytes of a message go in
pub register_fits : (n : ℕ) (bs : List ℕ) (x : ℕ) → ((i : ℕ) → get_or bs i 0 < 256) → x < 65536 → register x (take n bs) < 65536
unfolding register
register_fits zero bs x bytes h = h
register_fits (suc n) [] x bytes h = h
register_fits (suc n) (b ∷ bs) x bytes h = register_fits n bs (taken x b) (λ i. bytes (suc i)) (taken_fits x b h (bytes 0))

-- and a whole message from the preset on
pub message_fits : (bs : List ℕ) → ((i : ℕ) → get_or bs i 0 < 256) → register preset bs ≤ 0xffff
message_fits bs bytes = let fits = register_fits (length bs) bs preset bytes (omega arith) in omega (arith, rw take-length at fits)
