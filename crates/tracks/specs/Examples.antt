-- 01, Examples: those of pulse tracks. Each says of every answer r and every buffer left that the call's promise allows what they are.
use Rattle.std.specs.Prelude.{ℕ, ◌≤◌, List, [], ◌∷◌, ◌++◌, ◌≡◌, ℤ, pos, length, set, replicate}
use Rattle.lent.specs.Lent.{over, refused}
use Rattle.tracks.specs.Track.{track_of}
use Rattle.tracks.specs.Coder.{Codes}
use Rattle.tracks.specs.Decoder.{told, Decodes}

pub record Tracks : Type 0 where
  -- "E1 is track 84 10 40 04 01 20."
  pub e1_of_4 : (found : List ℕ) (r : ℤ) (left : List ℕ) → 6 ≤ length found → Codes (0xe1 ∷ []) 0 found r left
      → (r ≡ pos 6) × (left ≡ over (0x84 ∷ 0x10 ∷ 0x40 ∷ 0x04 ∷ 0x01 ∷ 0x20 ∷ []) found)
  -- "in 1 of 256, E1 has 10 at place 56."
  pub e1_of_256 : (found : List ℕ) (r : ℤ) (left : List ℕ) → 66 ≤ length found → Codes (0xe1 ∷ []) 1 found r left
      → (r ≡ pos 66) × (left ≡ over (0x81 ∷ set (replicate 64 0x00) 56 0x10 ++ 0x20 ∷ []) found)
  -- "84 20 is the empty frame; 84 40 20 is no track."
  pub empty : (found : List ℕ) (r : ℤ) (left : List ℕ) → 64 ≤ length found → Decodes (0x84 ∷ 0x20 ∷ []) found r left → (r ≡ told 0 0) × (left ≡ found)
  pub no_track : (found : List ℕ) (r : ℤ) (left : List ℕ) → 64 ≤ length found → Decodes (0x84 ∷ 0x40 ∷ 0x20 ∷ []) found r left
      → (r ≡ refused 9) × (left ≡ found)
  -- "64 bytes code, 65 is number 7."
  pub longest_of_4 : (frame found : List ℕ) (r : ℤ) (left : List ℕ) → length frame ≡ 64 → 258 ≤ length found → Codes frame 0 found r left
      → (r ≡ pos 258) × (left ≡ over (track_of 0 frame) found)
  pub longest_of_256 : (frame found : List ℕ) (r : ℤ) (left : List ℕ) → length frame ≡ 64 → 4098 ≤ length found → Codes frame 1 found r left
      → (r ≡ pos 4098) × (left ≡ over (track_of 1 frame) found)
  pub too_long : (frame found : List ℕ) (coding : ℕ) (r : ℤ) (left : List ℕ) → length frame ≡ 65 → Codes frame coding found r left
      → (r ≡ refused 7) × (left ≡ found)
