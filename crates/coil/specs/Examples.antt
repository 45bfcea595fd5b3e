-- 02, W3: "E1 is 6A 95.", and examples of our own. Each says of every number r and every buffer left that the call's promise allows what they are;
-- tracks and numbers are written out.
use Rattle.std.specs.Prelude.{ℕ, suc, ◌+◌, ◌-◌, ◌*◌, ◌≤◌, ◌<◌, List, [], ◌∷◌, ◌++◌, ◌≡◌, ℤ, pos, length, get_or, replicate}
use Rattle.lent.specs.Lent.{over, refused}
use Rattle.coil.specs.Coder.{CodesAnswer}
use Rattle.coil.specs.Decoder.{pair_at, a_clash, reading, DecodesAnswer}
use Rattle.coil.specs.Read.{Framed}
use Rattle.coil.specs.Overlay.{on_coil}

pub record Coil : Type 0 where
  -- "E1 is 6A 95.": wherever an answer has it
  pub e1 : (answer found : List ℕ) (r : ℤ) (left : List ℕ) (i : ℕ) → 3 ≤ length answer → length answer ≤ 8451 → 2 + 2 * length answer ≤ length found
      → CodesAnswer answer found r left → get_or answer i 0 ≡ 0xe1 → (get_or left (1 + 2 * i) 0 ≡ 0x6a) × (get_or left (2 + 2 * i) 0 ≡ 0x95)
  -- "bits lowest first": a byte for each bit
  pub each_bit : (found : List ℕ) (r : ℤ) (left : List ℕ) → 18 ≤ length found
      → CodesAnswer (0x01 ∷ 0x02 ∷ 0x04 ∷ 0x08 ∷ 0x10 ∷ 0x20 ∷ 0x40 ∷ 0x80 ∷ []) found r left
      → (r ≡ pos 18) × (left ≡ over (0x1d ∷ 0x6a ∷ 0xaa ∷ 0x9a ∷ 0xaa ∷ 0xa6 ∷ 0xaa ∷ 0xa9 ∷ 0xaa ∷ 0xaa ∷ 0x6a ∷ 0xaa ∷ 0x9a ∷ 0xaa ∷ 0xa6 ∷ 0xaa ∷ 0xa9 ∷ 0xb8 ∷ []) found)
  -- a card's plain success, 00 and its check 78 F0, to the byte and back
  pub success : (found : List ℕ) (r : ℤ) (left : List ℕ) → 8 ≤ length found → CodesAnswer (0x00 ∷ 0x78 ∷ 0xf0 ∷ []) found r left
      → (r ≡ pos 8) × (left ≡ over (0x1d ∷ 0xaa ∷ 0xaa ∷ 0xa9 ∷ 0x56 ∷ 0xaa ∷ 0x55 ∷ 0xb8 ∷ []) found)
  pub success_read : (found : List ℕ) (r : ℤ) (left : List ℕ) → 8451 ≤ length found
      → DecodesAnswer (0x1d ∷ 0xaa ∷ 0xaa ∷ 0xa9 ∷ 0x56 ∷ 0xaa ∷ 0x55 ∷ 0xb8 ∷ []) found r left
      → (r ≡ pos 3) × (left ≡ over (0x00 ∷ 0x78 ∷ 0xf0 ∷ []) found)
  -- "Answers have 3 to 8,451 bytes."; "7 also for other lengths"
  pub two_bytes : (answer found : List ℕ) (r : ℤ) (left : List ℕ) → length answer ≤ 2 → CodesAnswer answer found r left → (r ≡ refused 7) × (left ≡ found)
  pub too_long : (answer found : List ℕ) (r : ℤ) (left : List ℕ) → 8452 ≤ length answer → CodesAnswer answer found r left → (r ≡ refused 7) × (left ≡ found)
  -- "8 asks the track's length"
  pub track_room_short : (answer found : List ℕ) (r : ℤ) (left : List ℕ) → 3 ≤ length answer → length answer ≤ 8451 → length found < 2 + 2 * length answer
      → CodesAnswer answer found r left → (r ≡ refused 8) × (left ≡ found)
  -- "8,451 to decode", whatever the track is
  pub room_short : (t found : List ℕ) (r : ℤ) (left : List ℕ) → length found ≤ 8450 → DecodesAnswer t found r left → (r ≡ refused 8) × (left ≡ found)
  -- "12 ..: wrong start, end or length": a track without 1D or B8; one of an answer under 3 bytes or over 8,451; one of odd length
  pub no_start : (t found : List ℕ) (r : ℤ) (left : List ℕ) → 8451 ≤ length found → (get_or t 0 0 ≡ 0x1d → ⊥) → DecodesAnswer t found r left
      → (r ≡ refused 12) × (left ≡ found)
  pub no_end : (t found : List ℕ) (r : ℤ) (left : List ℕ) → 8451 ≤ length found → (get_or t (length t - 1) 0 ≡ 0xb8 → ⊥) → DecodesAnswer t found r left
      → (r ≡ refused 12) × (left ≡ found)
  pub track_short : (t found : List ℕ) (r : ℤ) (left : List ℕ) → 8451 ≤ length found → length t ≤ 7 → DecodesAnswer t found r left
      → (r ≡ refused 12) × (left ≡ found)
  pub track_long : (t found : List ℕ) (r : ℤ) (left : List ℕ) → 8451 ≤ length found → 16905 ≤ length t → DecodesAnswer t found r left
      → (r ≡ refused 12) × (left ≡ found)
  pub odd_length : (t found : List ℕ) (n : ℕ) (r : ℤ) (left : List ℕ) → 8451 ≤ length found → length t ≡ suc (2 * n) → DecodesAnswer t found r left
      → (r ≡ refused 12) × (left ≡ found)
  -- "names the first such bit, from 0": 11 in bit 0 is a clash at 0, 00 is lost at 0, whatever else is wrong behind it
  pub clash_at_0 : (t found : List ℕ) (n : ℕ) (r : ℤ) (left : List ℕ) → 8451 ≤ length found → Framed n t → pair_at t 0 ≡ 3 → DecodesAnswer t found r left
      → (r ≡ pos 131072) × (left ≡ found)
  pub lost_at_0 : (t found : List ℕ) (n : ℕ) (r : ℤ) (left : List ℕ) → 8451 ≤ length found → Framed n t → pair_at t 0 ≡ 0 → DecodesAnswer t found r left
      → (r ≡ pos 262144) × (left ≡ found)
  -- the plain success with 11 in bit 1 and 00 in bit 23; with 00 in bit 4 and 11 in bit 6; with 00 in its last bit, 23
  pub clash_at_1 : (found : List ℕ) (r : ℤ) (left : List ℕ) → 8451 ≤ length found
      → DecodesAnswer (0x1d ∷ 0xba ∷ 0xaa ∷ 0xa9 ∷ 0x56 ∷ 0xaa ∷ 0x54 ∷ 0xb8 ∷ []) found r left → (r ≡ pos 131073) × (left ≡ found)
  pub lost_at_4 : (found : List ℕ) (r : ℤ) (left : List ℕ) → 8451 ≤ length found
      → DecodesAnswer (0x1d ∷ 0xaa ∷ 0x2e ∷ 0xa9 ∷ 0x56 ∷ 0xaa ∷ 0x55 ∷ 0xb8 ∷ []) found r left → (r ≡ pos 262148) × (left ≡ found)
  pub lost_at_23 : (found : List ℕ) (r : ℤ) (left : List ℕ) → 8451 ≤ length found
      → DecodesAnswer (0x1d ∷ 0xaa ∷ 0xaa ∷ 0xa9 ∷ 0x56 ∷ 0xaa ∷ 0x54 ∷ 0xb8 ∷ []) found r left → (r ≡ pos 262167) × (left ≡ found)
  -- twenty bytes 00 with 00 in their last bit
  pub lost_at_159 : (found : List ℕ) (r : ℤ) (left : List ℕ) → 8451 ≤ length found → DecodesAnswer (0x1d ∷ replicate 39 0xaa ++ 0xa8 ∷ 0xb8 ∷ []) found r left
      → (r ≡ pos 262303) × (left ≡ found)
  -- "Overlaying is the union of pulses": 00 78 F0 over 02 78 F0, which differ in bit 1
  pub laid_over : on_coil ((0x00 ∷ 0x78 ∷ 0xf0 ∷ []) ∷ (0x02 ∷ 0x78 ∷ 0xf0 ∷ []) ∷ []) ≡ 0x1d ∷ 0xba ∷ 0xaa ∷ 0xa9 ∷ 0x56 ∷ 0xaa ∷ 0x55 ∷ 0xb8 ∷ []
  pub laid_over_read : reading (0x1d ∷ 0xba ∷ 0xaa ∷ 0xa9 ∷ 0x56 ∷ 0xaa ∷ 0x55 ∷ 0xb8 ∷ []) ≡ a_clash 1
