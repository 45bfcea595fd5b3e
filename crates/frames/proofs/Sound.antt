-- A frame is sound exactly if it is a message with its check appended, of 4 to 64 bytes in all. By the tests of the definition.
-- Assumes nothing.
use mathlib.Core.Path.{◌≡◌, refl, ◌∙◌}
use mathlib.Core.Bool.{true, false, ◌&&◌, and-eq-true_iff, and-false}
use Prim.Native.Nat.{ℕ, ◌+◌, ◌≤◌, ◌<◌}
use native.Mathlib.Omega.{arith}
use mathlib.Core.Logic.{◌⊎◌, inl, inr}
use mathlib.Core.List.{List}
use borrow.Author.Tests.{le-leb, lt-leb, leb-true}
use lib.Dec.{leb}
use lib.ListN.{length}
use Rattle.crc.specs.Check.{sealed, is_sealed}
use Rattle.crc.proofs.Seal.{length_sealed, is_sealed_of_sealed, sealed_of_is_sealed}
use Rattle.frames.specs.Frame.{shortest, longest, is_sound, Sound}

-- within the limits the check decides, and past them no frame is sound
pub sound_within : (frame : List ℕ) → shortest ≤ length frame → length frame ≤ longest → is_sound frame ≡ is_sealed frame
unfolding is_sound
sound_within frame a b = rw (le-leb shortest (length frame) a, le-leb (length frame) longest b) refl

pub unsound_past : (frame : List ℕ) → (length frame < shortest) ⊎ (longest < length frame) → is_sound frame ≡ false
unfolding is_sound
unsound_past frame (inl short) = rw (lt-leb shortest (length frame) short) refl
unsound_past frame (inr long) = rw (lt-leb (length frame) longest long) (and-false (leb shortest (length frame)))

pub sound_of_sealed : (m : List ℕ) → shortest ≤ length m + 2 → length m + 2 ≤ longest → is_sound (sealed m) ≡ true
sound_of_sealed m a b = sound_within (sealed m) (rw length_sealed a) (rw length_sealed b) ∙ is_sealed_of_sealed m

-- so a short message with its check is sound, whatever the limits are beyond it
pub sound_of_short : (m : List ℕ) → 2 ≤ length m → length m ≤ 62 → is_sound (sealed m) ≡ true
unfolding shortest longest
sound_of_short m a b = sound_of_sealed m (omega arith) (omega arith)

pub sealed_of_sound : (frame : List ℕ) → is_sound frame ≡ true → Sound frame
unfolding is_sound
sealed_of_sound frame e =
    let a = (and-eq-true_iff (leb shortest (length frame)) (leb (length frame) longest && is_sealed frame)).0 e in
    let b = (and-eq-true_iff (leb (length frame) longest) (is_sealed frame)).0 a.1 in
    record {
      least = leb-true shortest (length frame) a.0;
      most = leb-true (length frame) longest b.0;
      seal = sealed_of_is_sealed frame b.1;
    }
