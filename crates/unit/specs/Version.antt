-- The version of the exports, 0.3.2, and the number that tells it to a host.
use Rattle.std.specs.Prelude.{ℕ, ◌+◌, ◌*◌}

abbrev pub major : ℕ
major = 0

abbrev pub minor : ℕ
minor = 3

abbrev pub patch : ℕ
patch = 2

-- 65536 for each major, 256 for each minor, 1 for each patch
unfoldable pub version_number : ℕ
version_number = 65536 * major + 256 * minor + patch
