-- Steps of the decoder's private functions, for their promises alone: not to be held against the rules page. What `decode` promises is said in
-- Decoder.antt without them.
use Rattle.std.specs.Prelude.{ℕ, zero, suc, ◌+◌, ◌-◌, ◌*◌, ◌/◌, Bool, true, cond, ◌&&◌, List, [], ◌∷◌, leb, ltb, eqb, length, get_or, take, drop, Option, Some, None}
use Rattle.frames.specs.Frame.{longest}
use Rattle.tracks.specs.Track.{start, end, unit, track_length}

-- ---- one byte of a frame, from its unit of the track: 256 where the unit stands for none

-- the bit pair that a track byte stands for, or 4 for none
unfoldable pub pair_of : ℕ → ℕ
pair_of b = cond (eqb b 0x40) 0 (cond (eqb b 0x10) 1 (cond (eqb b 0x04) 2 (cond (eqb b 0x01) 3 4)))

-- four pairs, the lowest first
unfoldable pub joined : ℕ → ℕ → ℕ → ℕ → ℕ
joined p q r s = cond (ltb p 4 && (ltb q 4 && (ltb r 4 && ltb s 4))) (p + 4 * q + 16 * r + 64 * s) 256

-- how many bytes 00 a list begins with
unfoldable pub zeros : List ℕ → ℕ
zeros [] = 0
zeros (b ∷ u) = cond (eqb b 0) (suc (zeros u)) 0

-- the place of the first byte that is not 00, and its pair; the bytes past it are all 00
unfoldable pub lone : List ℕ → ℕ
lone u =
    let place : ℕ = zeros u in
    let pair : ℕ = pair_of (get_or u place 0) in
    let rest : List ℕ = drop (suc place) u in
    cond (ltb pair 4 && eqb (zeros rest) (length rest)) (4 * place + pair) 256

unfoldable pub byte_of : ℕ → List ℕ → ℕ
byte_of coding u =
    cond (eqb coding 0)
    (joined (pair_of (get_or u 0 0)) (pair_of (get_or u 1 0)) (pair_of (get_or u 2 0)) (pair_of (get_or u 3 0)))
    (lone u)

-- the byte, where there is one
unfoldable pub byte_or_none : ℕ → Option ℕ
byte_or_none v = cond (ltb v 256) (Some v) None

-- ---- the bytes of n units

unfoldable pub are_bytes : ℕ → ℕ → List ℕ → Bool
are_bytes coding zero t = true
are_bytes coding (suc n) t = ltb (byte_of coding (take (unit coding) t)) 256 && are_bytes coding n (drop (unit coding) t)

unfoldable pub bytes_of : ℕ → ℕ → List ℕ → List ℕ
bytes_of coding zero t = []
bytes_of coding (suc n) t = byte_of coding (take (unit coding) t) ∷ bytes_of coding n (drop (unit coding) t)

-- ---- a whole track

-- how many units stand between start and end
unfoldable pub count_of : ℕ → List ℕ → ℕ
count_of coding t = (length t - 2) / unit coding

unfoldable pub is_track : ℕ → List ℕ → Bool
is_track coding t =
    eqb (length t) (track_length coding (count_of coding t))
    && (eqb (get_or t 0 0) (start coding)
    && (leb (count_of coding t) longest && (eqb (get_or t (length t - 1) 0) end && are_bytes coding (count_of coding t) (drop 1 t))))

-- the frame's length, where the bytes are a track in this coding
unfoldable pub length_as : ℕ → List ℕ → Option ℕ
length_as coding t = cond (is_track coding t) (Some (count_of coding t)) None

unfoldable pub is_slot_mark : List ℕ → Bool
is_slot_mark t = eqb (length t) 1 && eqb (get_or t 0 0) end
