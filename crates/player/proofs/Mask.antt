-- std's bytes of a number are its field of eight bytes. Assumes nothing.
use Rattle.std.proofs.Common.{◌≡◌, ℕ}
use Rattle.std.proofs.Math.Nat.{div-div-eq-div-mul}
use Rattle.std.specs.Int.{bytes_low_first}
use Rattle.frames.specs.Field.{field_bytes}

pub low_bytes : (n : ℕ) → bytes_low_first 0 8 n ≡ field_bytes 8 n
unfolding field_bytes
low_bytes n = simp div-div-eq-div-mul
