-- 01, The card, step 3: which UIDs a mask and a slot call.
use Rattle.std.specs.Prelude.{ℕ, ◌+◌, ◌/◌, ◌%◌, ◌^◌, Bool, ◌&&◌, eqb}

-- "the mask in as few bytes as hold it"
unfoldable pub mask_bytes : ℕ → ℕ
mask_bytes n = (n + 7) / 8

-- "With one slot only the mask counts."
unfoldable pub fits_mask : ℕ → ℕ → ℕ → Bool
fits_mask uid n mask = eqb (uid % 2 ^ n) mask

-- "the card answers in slot s when its low (length + 4) UID bits are s above the mask": the mask, and the digit above it
unfoldable pub fits_slot : ℕ → ℕ → ℕ → ℕ → Bool
fits_slot uid n mask slot = fits_mask uid n mask && eqb (uid / 2 ^ n % 16) slot
