-- 01, Examples: "the byte 00 has check F078, sent 78 F0. P: no bytes, check 0000."
use Rattle.std.specs.Prelude.{◌≡◌, [], ◌∷◌}
use Rattle.crc.specs.Check.{check_of, check_bytes}

pub record Checks : Type 0 where
  pub zero_byte : check_of (0x00 ∷ []) ≡ 0xf078
  pub zero_byte_sent : check_bytes (0x00 ∷ []) ≡ 0x78 ∷ 0xf0 ∷ []
  pub no_bytes : check_of [] ≡ 0x0000
