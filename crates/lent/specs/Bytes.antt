use Rattle.std.specs.Prelude.{ℕ, ◌<◌, List, get_or}

-- a buffer of bytes
abbrev pub Bytes : List ℕ → Type 0
Bytes bytes = (i : ℕ) → get_or bytes i 0 < 256
