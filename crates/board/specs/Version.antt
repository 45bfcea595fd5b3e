-- The version that C is told. The paper has none: it is that of the file VERSION, and the gate holds header and archive to it.
use Rattle.std.specs.Prelude.{ℕ, ◌+◌, ◌*◌}

-- major, minor and patch in one number, the greater of two versions the greater number
unfoldable pub version_number : ℕ → ℕ → ℕ → ℕ
version_number major minor patch = 65536 * major + 256 * minor + patch

-- this version
unfoldable pub version : ℕ
version = version_number 3 0 0
