-- A field of four bytes, byte by byte, and one of eight, four by four: past the end a byte is 0. By the definitions. Assumes nothing.
use mathlib.Core.Path.{◌≡◌, refl, sym, ◌∙◌}
use mathlib.Core.List.{List, [], ◌∷◌}
use Prim.Native.Nat.{ℕ, zero, suc, ◌+◌, ◌*◌}
use native.Mathlib.Omega.{arith}
use lib.ListN.{take, drop, get_or}
use Rattle.frames.specs.Field.{field_of, field_at}

-- the number of so many bytes from a place on
from_place : List ℕ → ℕ → ℕ → ℕ
from_place bytes at n = field_of (take n (drop at bytes))

from_more : (bytes : List ℕ) (at n : ℕ) → from_place bytes at (suc n) ≡ get_or bytes at 0 + 256 * from_place bytes (suc at) n
unfolding from_place field_of
from_more [] zero zero = refl
from_more [] zero (suc n) = refl
from_more [] (suc at) zero = refl
from_more [] (suc at) (suc n) = refl
from_more (b ∷ bytes) zero n = refl
from_more (b ∷ bytes) (suc at) n = from_more bytes at n

four_places : (bytes : List ℕ) (at n : ℕ)
    → from_place bytes at (suc (suc (suc (suc n))))
    ≡ get_or bytes at 0 + 256 * (get_or bytes (at + 1) 0 + 256 * (get_or bytes (at + 2) 0 + 256 * (get_or bytes (at + 3) 0 + 256 * from_place bytes (at + 4) n)))
four_places bytes at n =
    let p1 : suc at ≡ at + 1 = omega arith in
    let p2 : suc (at + 1) ≡ at + 2 = omega arith in
    let p3 : suc (at + 2) ≡ at + 3 = omega arith in
    let p4 : suc (at + 3) ≡ at + 4 = omega arith in
    from_more bytes at (suc (suc (suc n)))
    ∙ rw (p1, from_more bytes (at + 1) (suc (suc n)), p2, from_more bytes (at + 2) (suc n), p3, from_more bytes (at + 3) n, p4) refl

none_from : (bytes : List ℕ) (at : ℕ) → from_place bytes at 0 ≡ 0
unfolding from_place field_of
none_from bytes at = refl

four_from : (bytes : List ℕ) (at : ℕ) → field_at bytes at 4 ≡ from_place bytes at 4
unfolding field_at from_place
four_from bytes at = refl

eight_from : (bytes : List ℕ) (at : ℕ) → field_at bytes at 8 ≡ from_place bytes at 8
unfolding field_at from_place
eight_from bytes at = refl

pub four_of_bytes : (bytes : List ℕ) (at : ℕ)
    → field_of (get_or bytes at 0 ∷ get_or bytes (at + 1) 0 ∷ get_or bytes (at + 2) 0 ∷ get_or bytes (at + 3) 0 ∷ []) ≡ field_at bytes at 4
unfolding field_of field_at from_place
four_of_bytes bytes at = sym (four_places bytes at 0)

pub eight_of_fours : (bytes : List ℕ) (at : ℕ) → field_at bytes at 4 + 4294967296 * field_at bytes (at + 4) 4 ≡ field_at bytes at 8
eight_of_fours bytes at =
    rw (four_from bytes at, four_from bytes (at + 4), eight_from bytes at)
    (omega (arith, four_places bytes at 0, none_from bytes (at + 4), four_places bytes at 4))
