-- One byte and its unit of a track, in either coding: each is read back from the other, to the byte. Assumes nothing.
use mathlib.Core.Path.{◌≡◌, ◌∙◌}
use Prim.Native.Nat.{ℕ, ◌<◌}
use native.Mathlib.Decide.{ℕ_discrete}
use mathlib.Core.List.{List}
use lib.ListN.{length}
use Rattle.tracks.specs.Track.{quad, long, coded, unit}
use Rattle.tracks.specs.Steps.{byte_of}
use Rattle.tracks.proofs.Units.{coded_of_4, coded_of_256, unit_of_4, unit_of_256}
use Rattle.tracks.proofs.Reading.{byte_of_4, byte_of_256}
use Rattle.tracks.proofs.OneOf4.{quad_read, quad_write}
use Rattle.tracks.proofs.OneOf256.{long_read, long_write}

pub byte_of_coded : (coding v : ℕ) → v < 256 → byte_of coding (coded coding v) ≡ v
byte_of_coded coding v h = go (ℕ_discrete coding 0)
  where
    go : Dec (coding ≡ 0) → byte_of coding (coded coding v) ≡ v
    go (yes e) = rw (coded_of_4 coding v e, byte_of_4 coding (quad v) e) (quad_read v h)
    go (no e) = rw (coded_of_256 coding v e, byte_of_256 coding (long v) e) (long_read v h)

pub coded_of_byte : (coding : ℕ) (u : List ℕ) → length u ≡ unit coding → byte_of coding u < 256 → u ≡ coded coding (byte_of coding u)
coded_of_byte coding u n h = go (ℕ_discrete coding 0)
  where
    go : Dec (coding ≡ 0) → u ≡ coded coding (byte_of coding u)
    go (yes e) =
        rw (coded_of_4 coding (byte_of coding u) e, byte_of_4 coding u e) (quad_write u (n ∙ unit_of_4 coding e) (rw (byte_of_4 coding u e) at h))
    go (no e) =
        rw (coded_of_256 coding (byte_of coding u) e, byte_of_256 coding u e)
        (long_write u (n ∙ unit_of_256 coding e) (rw (byte_of_256 coding u e) at h))
