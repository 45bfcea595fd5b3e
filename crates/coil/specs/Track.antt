-- 02, W3: the track of a card's answer on the coil, as the list of its bytes.
-- "one subcarrier, high rate, in units of 18.88 µs packed eight to a byte, earliest on top": a unit with pulses is 1.
use Rattle.std.specs.Prelude.{ℕ, ◌+◌, ◌*◌, ◌/◌, ◌%◌, ◌^◌, List, [], ◌∷◌, ◌++◌, cond, eqb, get_or}

-- "start 1D, end B8"
abbrev pub start : ℕ
start = 0x1d

abbrev pub end : ℕ
end = 0xb8

-- "bits lowest first": bit i of an answer, 0 or 1
unfoldable pub bit : List ℕ → ℕ → ℕ
bit answer i = get_or answer (i / 8) 0 / 2 ^ (i % 8) % 2

-- "a 0 bit is 10, a 1 bit is 01"
unfoldable pub pair_of : ℕ → ℕ
pair_of b = cond (eqb b 0) 2 1

-- the lowest four bits of v, "earliest on top"
unfoldable pub half : ℕ → ℕ
half v = 64 * pair_of (v % 2) + 16 * pair_of (v / 2 % 2) + 4 * pair_of (v / 4 % 2) + pair_of (v / 8 % 2)

-- the bytes of an answer, one after the other
unfoldable pub pulses : List ℕ → List ℕ
pulses [] = []
pulses (v ∷ answer) = half v ∷ half (v / 16) ∷ pulses answer

-- the track of an answer, and its length
unfoldable pub answer_track : List ℕ → List ℕ
answer_track answer = start ∷ pulses answer ++ end ∷ []

abbrev pub answer_track_length : ℕ → ℕ
answer_track_length n = 2 + 2 * n
