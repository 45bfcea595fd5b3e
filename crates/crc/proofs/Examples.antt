-- 01's examples of the check, by computation. Assumes nothing.
use mathlib.Core.Path.{refl}
use Rattle.crc.specs.Check.{shifted, shifts, taken, register, check_of, check_bytes}
use Rattle.crc.specs.Examples.{Checks}

pub checks : Checks
unfolding shifted shifts taken register check_of check_bytes
checks = record { zero_byte = refl; zero_byte_sent = refl; no_bytes = refl }
