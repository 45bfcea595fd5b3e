-- 02, W3: what is read of a track on the coil, the number that the decoder gives back, and the buffer that it leaves.
use Rattle.std.specs.Prelude.{ℕ, zero, suc, ◌+◌, ◌-◌, ◌*◌, ◌/◌, ◌%◌, ◌^◌, Bool, cond, ◌&&◌, ◌||◌, List, [], ◌∷◌, ◌≡◌, leb, ltb, eqb, ℤ, pos, length, get_or}
use Rattle.lent.specs.Lent.{over, refused}
use Rattle.frames.specs.Frame.{longest_answer}
use Rattle.coil.specs.Track.{start, end, answer_track_length}
use Rattle.coil.specs.Coder.{is_answer_length}

-- ---- start, end and length

-- how many bytes the answer of a track has, by the track's length
unfoldable pub bytes_in : List ℕ → ℕ
bytes_in t = (length t - 2) / 2

-- 12: "wrong start, end or length"
unfoldable pub is_framed : List ℕ → Bool
is_framed t =
    eqb (length t) (answer_track_length (bytes_in t))
    && (is_answer_length (bytes_in t) && (eqb (get_or t 0 0) start && eqb (get_or t (length t - 1) 0) end))

-- ---- the bits between them

-- the two units of bit i, "earliest on top": four pairs to a byte, the first of them right after the start
unfoldable pub pair_at : List ℕ → ℕ → ℕ
pair_at t i = get_or t (1 + i / 4) 0 / 2 ^ (6 - 2 * (i % 4)) % 4

-- "A pair 11 between start and end is a clash, 00 is lost"
abbrev pub is_clash : ℕ → Bool
is_clash pair = eqb pair 3

abbrev pub is_lost : ℕ → Bool
is_lost pair = eqb pair 0

unfoldable pub is_bad : List ℕ → ℕ → Bool
is_bad t i = is_clash (pair_at t i) || is_lost (pair_at t i)

-- the first number of the n from i on at which a test holds, or else the number after them
unfoldable pub first_from : (ℕ → Bool) → ℕ → ℕ → ℕ
first_from test i zero = i
first_from test i (suc n) = cond (test i) i (first_from test (suc i) n)

-- "the decoder names the first such bit, from 0"
unfoldable pub first_bad : List ℕ → ℕ
first_bad t = first_from (is_bad t) 0 (8 * bytes_in t)

-- "a 0 bit is 10, a 1 bit is 01"
abbrev pub bit_at : List ℕ → ℕ → ℕ
bit_at t i = pair_at t i % 2

-- byte i, "bits lowest first"
unfoldable pub byte_at : List ℕ → ℕ → ℕ
byte_at t i =
    bit_at t (8 * i)
    + 2 * bit_at t (8 * i + 1)
    + 4 * bit_at t (8 * i + 2)
    + 8 * bit_at t (8 * i + 3)
    + 16 * bit_at t (8 * i + 4)
    + 32 * bit_at t (8 * i + 5)
    + 64 * bit_at t (8 * i + 6)
    + 128 * bit_at t (8 * i + 7)

-- n bytes from byte i on
unfoldable pub bytes_from : List ℕ → ℕ → ℕ → List ℕ
bytes_from t i zero = []
bytes_from t i (suc n) = byte_at t i ∷ bytes_from t (suc i) n

-- ---- what is read

-- an answer's bytes, a clash or a lost bit at its place, or no track at all
pub data Reading : Type 0 where
  an_answer : List ℕ → Reading
  a_clash : ℕ → Reading
  a_loss : ℕ → Reading
  no_track : Reading

-- by the first bit that is bad, if there is one
unfoldable pub read_to : List ℕ → ℕ → Reading
read_to t k =
    cond (ltb k (8 * bytes_in t))
    (cond (is_clash (pair_at t k)) (a_clash k) (a_loss k))
    (an_answer (bytes_from t 0 (bytes_in t)))

unfoldable pub reading : List ℕ → Reading
reading t = cond (is_framed t) (read_to t (first_bad t)) no_track

-- ---- what the decoder gives back and leaves

-- one number: 131,072 times the kind, and the answer's length or the bit's place; a refusal is minus its number
abbrev pub told : ℕ → ℕ → ℤ
told kind n = pos (131072 * kind + n)

unfoldable pub number : Reading → ℤ
number (an_answer answer) = told 0 (length answer)
number (a_clash k) = told 1 k
number (a_loss k) = told 2 k
number no_track = refused 12

-- an answer is written, and the bytes past it stay as found; else it "writes nothing"
unfoldable pub written : Reading → List ℕ → List ℕ
written (an_answer answer) found = over answer found
written (a_clash k) found = found
written (a_loss k) found = found
written no_track found = found

-- "8 asks .. 8,451 to decode; 12, after 8"
unfoldable pub decode_answer : List ℕ → ℕ → ℤ
decode_answer t room = cond (leb longest_answer room) (number (reading t)) (refused 8)

unfoldable pub decode_leaves : List ℕ → List ℕ → List ℕ
decode_leaves t found = cond (leb longest_answer (length found)) (written (reading t) found) found

-- what `decode` promises: its number r, and the buffer that it leaves
pub record DecodesAnswer (t found : List ℕ) (r : ℤ) (left : List ℕ) : Type 0 where
  pub tells : r ≡ decode_answer t (length found)
  pub leaves : left ≡ decode_leaves t found
