-- Which code this is.
use Rattle.std.specs.Prelude.{ℕ}

-- major × 1000 + minor: the major rises where a program must be changed or built again, the minor
-- where something is added
abbrev pub version_number : ℕ
version_number = 2000
