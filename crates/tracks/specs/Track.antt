-- 01, Pulse tracks: the track of a frame, as the list of its bytes.
-- "Time is cut into intervals of 9.44 µs. A track packs eight intervals into a byte, earliest in the top bit, 1 for a pause."
use Rattle.std.specs.Prelude.{ℕ, ◌+◌, ◌*◌, ◌/◌, ◌%◌, List, [], ◌∷◌, ◌++◌, cond, eqb, get_or, set, replicate}

-- the coding numbers (Numbers of refused calls, 7): "0 (1 of 4) and 1 (1 of 256)". In these definitions every other number reads as 1

-- "Start: 84 for 1 of 4, 81 for 1 of 256."
unfoldable pub start : ℕ → ℕ
start coding = cond (eqb coding 0) 0x84 0x81

-- "End: 20 (four intervals and four zero bits)."
abbrev pub end : ℕ
end = 0x20

-- "1 of 4: each bit pair, lowest pair first, is one byte: 00 is 40, 01 is 10, 10 is 04, 11 is 01.": the pattern of a pair, and those of a byte
unfoldable pub pattern : ℕ → ℕ
pattern pair = get_or (0x40 ∷ 0x10 ∷ 0x04 ∷ 0x01 ∷ []) pair 0

unfoldable pub quad : ℕ → List ℕ
quad v = pattern (v % 4) ∷ pattern (v / 4 % 4) ∷ pattern (v / 16 % 4) ∷ pattern (v / 64 % 4) ∷ []

-- "1 of 256: a byte of value v is 64 track bytes, all 00 but the one at place v / 4, which is the pattern above for v mod 4."
unfoldable pub blank : List ℕ
blank = replicate 64 0x00

unfoldable pub long : ℕ → List ℕ
long v = set blank (v / 4) (pattern (v % 4))

-- a byte in a coding, and how many track bytes that takes
unfoldable pub coded : ℕ → ℕ → List ℕ
coded coding v = cond (eqb coding 0) (quad v) (long v)

unfoldable pub unit : ℕ → ℕ
unit coding = cond (eqb coding 0) 4 64

-- the bytes of a frame, one after the other
unfoldable pub pulses : ℕ → List ℕ → List ℕ
pulses coding [] = []
pulses coding (v ∷ frame) = coded coding v ++ pulses coding frame

-- the track of a frame, and its length
unfoldable pub track_of : ℕ → List ℕ → List ℕ
track_of coding frame = start coding ∷ pulses coding frame ++ end ∷ []

abbrev pub track_length : ℕ → ℕ → ℕ
track_length coding n = 2 + unit coding * n

-- "The byte 20 alone is a slot mark."
abbrev pub slot_mark : List ℕ
slot_mark = end ∷ []
