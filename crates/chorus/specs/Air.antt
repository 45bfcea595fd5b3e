-- 02, W3: what arrives in a slot where the cards' tracks lie over each other on the coil, and are decoded: by the coder's and the decoder's own
-- definitions.
use Rattle.std.specs.Prelude.{ℕ, ◌≤◌, Bool, true, false, cond, ◌&&◌, ◌||◌, List, [], ◌∷◌, ◌≡◌, ltb, eqb, ℤ, pos, negsuc, length, take}
use Rattle.frames.specs.Frame.{longest_answer}
use Rattle.coil.specs.Decoder.{Reading, an_answer, a_clash, a_loss, no_track, reading, DecodesAnswer}
use Rattle.coil.specs.Overlay.{on_coil, Answers}
use Rattle.walk.specs.declared.Kind.TheVariants as kinds
use Rattle.field.specs.Field.{Arrival, arrives}

abbrev pub silence : Arrival
silence = record { kind = kinds.Silence; bytes = [] }

abbrev pub clash : Arrival
clash = record { kind = kinds.Clash; bytes = [] }

abbrev pub whole : List ℕ → Arrival
whole answer = record { kind = kinds.Bytes; bytes = answer }

-- what the walk is told of a reading. 01: "Each is silent, a clash, or bytes. .. all else is a clash": a lost bit and no track too
unfoldable pub heard_as : Reading → Arrival
heard_as (an_answer answer) = whole answer
heard_as (a_clash k) = clash
heard_as (a_loss k) = clash
heard_as no_track = clash

-- the coil as an air: where no card answers there are no pulses, and the slot is silent; else all answers are coded, laid over each other and decoded
unfoldable pub coil_air : List (List ℕ) → Arrival
coil_air [] = silence
coil_air (r ∷ rs) = heard_as (reading (on_coil (r ∷ rs)))

-- ---- the same by the decoder's number, as a C program has it: from 0 to 131,071 it is an answer's length; all else, refusals too, is told as a clash. A slot
-- without pulses is told as silent: there is no track to decode

unfoldable pub heard_by : ℤ → List ℕ → Arrival
heard_by (pos n) left = cond (ltb n 131072) (whole (take n left)) clash
heard_by (negsuc n) left = clash

unfoldable pub NumberHeard : Type 0
NumberHeard = (t found : List ℕ) (r : ℤ) (left : List ℕ) → longest_answer ≤ length found → DecodesAnswer t found r left → heard_by r left ≡ heard_as (reading t)

-- ---- 01's air over the different answers

unfoldable pub same_bytes : List ℕ → List ℕ → Bool
same_bytes [] [] = true
same_bytes [] (y ∷ ys) = false
same_bytes (x ∷ xs) [] = false
same_bytes (x ∷ xs) (y ∷ ys) = eqb x y && same_bytes xs ys

unfoldable pub is_repeated : List ℕ → List (List ℕ) → Bool
is_repeated r [] = false
is_repeated r (s ∷ rs) = same_bytes r s || is_repeated r rs

-- each answer once
unfoldable pub different_rows : List (List ℕ) → List (List ℕ)
different_rows [] = []
different_rows (r ∷ rs) = cond (is_repeated r rs) (different_rows rs) (r ∷ different_rows rs)

-- "So on the coil demand 3 counts different answers and not cards": of answers of any lengths there arrives what 01's air, "One reply arrives whole; two
-- or more in a slot arrive as a clash.", makes of the different ones
unfoldable pub CoilArrives : Type 0
CoilArrives = (rs : List (List ℕ)) → Answers rs → coil_air rs ≡ arrives (different_rows rs)
