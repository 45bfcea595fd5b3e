-- 02, W3: "Overlaying is the union of pulses: show that two different answers of one length, overlaid, never decode as clean. Identical answers do."
use Rattle.std.specs.Prelude.{ℕ, suc, ◌*◌, ◌<◌, Bool, true, false, ◌&&◌, List, [], ◌∷◌, ◌≡◌, eqb, length, get_or}
use Rattle.std.specs.Int.Bits.{bit_or}
use Rattle.coil.specs.Track.{end, bit, answer_track}
use Rattle.coil.specs.Decoder.{Reading, an_answer, a_clash, reading}
use Rattle.coil.specs.Read.{Codable}

-- the union of two tracks: a unit has pulses where one of them has. Where one is longer, its rest stays
unfoldable pub overlay : List ℕ → List ℕ → List ℕ
overlay [] ys = ys
overlay (x ∷ xs) [] = x ∷ xs
overlay (x ∷ xs) (y ∷ ys) = bit_or x y ∷ overlay xs ys

-- the tracks of several answers, laid over each other
unfoldable pub on_coil : List (List ℕ) → List ℕ
on_coil [] = []
on_coil (r ∷ rs) = overlay (answer_track r) (on_coil rs)

-- "Answers have 3 to 8,451 bytes.": every row of a list is such an answer
pub data Answers : List (List ℕ) → Type 0 where
  none : Answers []
  more : {r : List ℕ} {rs : List (List ℕ)} → Codable r → Answers rs → Answers (r ∷ rs)

-- "of one length"
pub data OfLength (n : ℕ) : List (List ℕ) → Type 0 where
  none : OfLength n []
  more : {r : List ℕ} {rs : List (List ℕ)} → length r ≡ n → OfLength n rs → OfLength n (r ∷ rs)

-- every answer of a list is the answer a
pub data AllAre (a : List ℕ) : List (List ℕ) → Type 0 where
  none : AllAre a []
  more : {r : List ℕ} {rs : List (List ℕ)} → r ≡ a → AllAre a rs → AllAre a (r ∷ rs)

-- whether every answer of a list has the bit k of the answer a
unfoldable pub alike_at : ℕ → List ℕ → List (List ℕ) → Bool
alike_at k a [] = true
alike_at k a (r ∷ rs) = eqb (bit a k) (bit r k) && alike_at k a rs

-- a clash at the first bit in which not all are alike
pub record FirstUnlike (n : ℕ) (a : List ℕ) (rs : List (List ℕ)) (read : Reading) : Type 0 where
  pub place : ℕ
  pub inside : place < 8 * n
  pub alike_before : (i : ℕ) → i < place → alike_at i a rs ≡ true
  pub unlike : alike_at place a rs ≡ false
  pub clash : read ≡ a_clash place

-- one answer or more, a and rs, laid over each other
pub record Overlays : Type 0 where
  -- "Identical answers do."
  pub identical : (a : List ℕ) (rs : List (List ℕ)) → Codable a → AllAre a rs → reading (on_coil (a ∷ rs)) ≡ an_answer a
  -- of one length, and not all identical
  pub different : (n : ℕ) (a : List ℕ) (rs : List (List ℕ)) → Answers (a ∷ rs) → OfLength n (a ∷ rs) → (AllAre a rs → ⊥)
      → FirstUnlike n a rs (reading (on_coil (a ∷ rs)))
  -- "two different answers of one length, overlaid, never decode as clean"
  pub two : (a b : List ℕ) → Codable a → Codable b → length a ≡ length b → (a ≡ b → ⊥)
      → FirstUnlike (length a) a (b ∷ []) (reading (overlay (answer_track a) (answer_track b)))
  -- nor do others, whatever their lengths: it is a clash, be it with the end of a shorter one
  pub any_lengths : (a : List ℕ) (rs : List (List ℕ)) → Answers (a ∷ rs) → (AllAre a rs → ⊥) → (k : ℕ) × (reading (on_coil (a ∷ rs)) ≡ a_clash k)
  -- the end stands nowhere but last: the first byte B8 ends a track, whatever lies over whatever
  pub end_alone : (a : List ℕ) (rs : List (List ℕ)) → Answers (a ∷ rs) → (j : ℕ) → suc j < length (on_coil (a ∷ rs))
      → get_or (on_coil (a ∷ rs)) j 0 ≡ end → ⊥
