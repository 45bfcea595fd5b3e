-- Coder and decoder are inverse to each other, to the byte: what was coded is read back, what is read is what the coder makes of
-- that frame, and nothing else is read. By the units of a track, one after the other. Assumes nothing.
use mathlib.Core.Path.{◌≡◌, refl, sym, ap, ap₂, ◌∙◌}
use mathlib.Core.Bool.{true, and-eq-true_iff}
use Prim.Native.Nat.{ℕ, zero, suc, ◌+◌, ◌-◌, ◌*◌, ◌≤◌, ◌<◌}
use native.Mathlib.Nat.{mul-zero, mul-div_cancel_left}
use native.Mathlib.Omega.{arith}
use mathlib.Core.List.{List, [], ◌∷◌, ◌++◌, append_assoc}
use lib.Dec.{ltb}
use borrow.Author.Tests.{lt-ltb, ltb-true}
use lib.ListN.{length, get_or, take, drop, length-drop, take-append-drop, drop_of_length-le}
use lib.Seq.{take_at, drop_at, drop-drop, length-take-le, drop-cons, get_or_at}
use Rattle.lent.specs.Bytes.{Bytes}
use Rattle.frames.specs.Frame.{longest}
use Rattle.tracks.specs.Track.{start, end, coded, unit, pulses, track_of, track_length}
use Rattle.tracks.specs.Steps.{byte_of, are_bytes, bytes_of, count_of, is_track}
use Rattle.tracks.proofs.Units.{length_coded, length_pulses, length_track, unit_least}
use Rattle.tracks.proofs.Bytes.{length_bytes_of}
use Rattle.tracks.proofs.Coded.{byte_of_coded, coded_of_byte}
use Rattle.tracks.proofs.Parts.{Parts, parts_of_track, track_of_parts}

-- the frame that a track is read as
unfoldable pub frame_of : ℕ → List ℕ → List ℕ
frame_of coding t = bytes_of coding (count_of coding t) (drop 1 t)

-- ---- the units of a frame

take_unit : (coding v : ℕ) (frame rest : List ℕ) → take (unit coding) (pulses coding (v ∷ frame) ++ rest) ≡ coded coding v
unfolding pulses
take_unit coding v frame rest = rw append_assoc (take_at (coded coding v) (pulses coding frame ++ rest) (unit coding) (length_coded coding v))

drop_unit : (coding v : ℕ) (frame rest : List ℕ) → drop (unit coding) (pulses coding (v ∷ frame) ++ rest) ≡ pulses coding frame ++ rest
unfolding pulses
drop_unit coding v frame rest = rw append_assoc (drop_at (coded coding v) (pulses coding frame ++ rest) (unit coding) (length_coded coding v))

read_unit : (coding v : ℕ) (frame rest : List ℕ) → v < 256 → byte_of coding (take (unit coding) (pulses coding (v ∷ frame) ++ rest)) ≡ v
read_unit coding v frame rest h = rw take_unit (byte_of_coded coding v h)

are_bytes_of_pulses : (coding : ℕ) (frame rest : List ℕ) → Bytes frame → are_bytes coding (length frame) (pulses coding frame ++ rest) ≡ true
unfolding are_bytes
are_bytes_of_pulses coding [] rest bs = refl
are_bytes_of_pulses coding (v ∷ frame) rest bs =
    rw (read_unit coding v frame rest (bs 0), drop_unit, lt-ltb v 256 (bs 0), are_bytes_of_pulses coding frame rest (λ i. bs (suc i)))

bytes_of_pulses : (coding : ℕ) (frame rest : List ℕ) → Bytes frame → bytes_of coding (length frame) (pulses coding frame ++ rest) ≡ frame
unfolding bytes_of
bytes_of_pulses coding [] rest bs = refl
bytes_of_pulses coding (v ∷ frame) rest bs =
    rw (read_unit coding v frame rest (bs 0), drop_unit, bytes_of_pulses coding frame rest (λ i. bs (suc i)))

first_unit : (coding n : ℕ) (t : List ℕ) → are_bytes coding (suc n) t ≡ true
    → (byte_of coding (take (unit coding) t) < 256) × (are_bytes coding n (drop (unit coding) t) ≡ true)
unfolding are_bytes
first_unit coding n t e =
    let both = (and-eq-true_iff (ltb (byte_of coding (take (unit coding) t)) 256) (are_bytes coding n (drop (unit coding) t))).0 e in
    (ltb-true (byte_of coding (take (unit coding) t)) 256 both.0, both.1)

pulses_of_bytes : (coding n : ℕ) (t : List ℕ) → unit coding * n ≤ length t → are_bytes coding n t ≡ true
    → t ≡ pulses coding (bytes_of coding n t) ++ drop (unit coding * n) t
unfolding pulses bytes_of
pulses_of_bytes coding zero t h e = rw mul-zero
pulses_of_bytes coding (suc n) t h e =
    let u : ℕ = unit coding in
    let both = first_unit coding n t e in
    let first : take u t ≡ coded coding (byte_of coding (take u t)) =
    coded_of_byte coding (take u t) (length-take-le u t (omega arith)) both.0
    in
    let rest : drop u t ≡ pulses coding (bytes_of coding n (drop u t)) ++ drop (u * n) (drop u t) =
    pulses_of_bytes coding n (drop u t) (rw length-drop (omega arith)) both.1
    in
    let place : u + u * n ≡ u * suc n = omega arith in
    sym (take-append-drop u t)
    ∙ ap₂ (λ (a b : List ℕ). a ++ b) first rest
    ∙ rw (drop-drop, place, append_assoc)

-- ---- a whole track

pub count_of_track : (coding : ℕ) (frame : List ℕ) → count_of coding (track_of coding frame) ≡ length frame
unfolding count_of
count_of_track coding frame =
    let units : length (track_of coding frame) - 2 ≡ unit coding * length frame = omega (arith, length_track coding frame) in
    rw units (mul-div_cancel_left (length frame) (omega (arith, unit_least coding)))

parts_of_frame : (coding : ℕ) (frame : List ℕ) → Bytes frame → length frame ≤ longest → Parts coding (track_of coding frame)
unfolding track_of
parts_of_frame coding frame bs h =
    let n : length (track_of coding frame) ≡ track_length coding (length frame) = length_track coding frame in
    let count : count_of coding (track_of coding frame) ≡ length frame = count_of_track coding frame in
    record {
      size = rw count n;
      starts = refl;
      short = rw count h;
      ends =
          get_or_at (start coding ∷ pulses coding frame) end [] 0 (length (track_of coding frame) - 1)
          (omega (arith, n, length_pulses coding frame));
      bytes = rw count (are_bytes_of_pulses coding frame (end ∷ []) bs);
    }

-- what was coded is a track, and its frame is the one that was coded
pub track_of_frame : (coding : ℕ) (frame : List ℕ) → Bytes frame → length frame ≤ longest → is_track coding (track_of coding frame) ≡ true
track_of_frame coding frame bs h = track_of_parts coding (track_of coding frame) (parts_of_frame coding frame bs h)

pub frame_of_track : (coding : ℕ) (frame : List ℕ) → Bytes frame → frame_of coding (track_of coding frame) ≡ frame
unfolding frame_of track_of
frame_of_track coding frame bs = rw (count_of_track coding frame) (bytes_of_pulses coding frame (end ∷ []) bs)

last_byte : (t : List ℕ) (k : ℕ) → length t ≡ 2 + k → get_or t (length t - 1) 0 ≡ end → drop k (drop 1 t) ≡ end ∷ []
last_byte t k h e =
    let place : 1 + k ≡ length t - 1 = omega arith in
    drop-drop k 1 t
    ∙ drop-cons t (1 + k) 0 (omega arith)
    ∙ rw (drop_of_length-le t {i = suc (1 + k)} (omega arith), place, e)

-- whatever is a track is, to the byte, what the coder makes of its frame
pub coded_of_track : (coding : ℕ) (t : List ℕ) → is_track coding t ≡ true → t ≡ track_of coding (frame_of coding t)
unfolding frame_of track_of
coded_of_track coding t e =
    let parts : Parts coding t = parts_of_track coding t e in
    let n : ℕ = count_of coding t in
    let u : ℕ = unit coding in
    let first : t ≡ start coding ∷ drop 1 t =
    drop-cons t 0 0 (omega arith) ∙ ap (λ (b : ℕ). b ∷ drop 1 t) parts.starts
    in
    let units : drop 1 t ≡ pulses coding (bytes_of coding n (drop 1 t)) ++ drop (u * n) (drop 1 t) =
    pulses_of_bytes coding n (drop 1 t) (rw length-drop (omega arith)) parts.bytes
    in
    let last : drop (u * n) (drop 1 t) ≡ end ∷ [] = last_byte t (u * n) (omega arith) parts.ends in
    first ∙ ap (λ (l : List ℕ). start coding ∷ l) (units ∙ ap (λ (l : List ℕ). pulses coding (bytes_of coding n (drop 1 t)) ++ l) last)

-- and its frame is one of bytes
bytes_are_bytes : (coding n : ℕ) (t : List ℕ) → are_bytes coding n t ≡ true → Bytes (bytes_of coding n t)
unfolding bytes_of
bytes_are_bytes coding zero t e i = omega arith
bytes_are_bytes coding (suc n) t e zero = (first_unit coding n t e).0
bytes_are_bytes coding (suc n) t e (suc i) = bytes_are_bytes coding n (drop (unit coding) t) (first_unit coding n t e).1 i

pub frame_bytes : (coding : ℕ) (t : List ℕ) → is_track coding t ≡ true → Bytes (frame_of coding t)
unfolding frame_of
frame_bytes coding t e = bytes_are_bytes coding (count_of coding t) (drop 1 t) (parts_of_track coding t e).bytes

pub length_frame_of : (coding : ℕ) (t : List ℕ) → length (frame_of coding t) ≡ count_of coding t
unfolding frame_of
length_frame_of coding t = length_bytes_of coding (count_of coding t) (drop 1 t)
