-- How long a sheet can be.
use Rattle.std.specs.Prelude.{List, ℕ, ◌<◌, length}
use Rattle.day.specs.Sheet.{sheet}

-- 2 to the 63
abbrev pub sheet_limit : ℕ
sheet_limit = 9223372036854775808

-- every sheet is shorter, whatever the day
abbrev pub SheetsAreShort : Type 0
SheetsAreShort = (s : List ℕ) → length (sheet s) < sheet_limit
