-- A day that comes in pieces: what is known of it, and what is still to be printed.
use Rattle.std.specs.Prelude.{Bool, true, false, not, ◌&&◌, ◌||◌, List, [], ◌∷◌, ◌++◌, ℕ, suc, ◌-◌, leb, eqb, length, get_or}
use Rattle.lists.specs.Lists.{on_first}
use Rattle.text.specs.Line.{line_limit}
use Rattle.day.specs.Read.{lines_in}
use Rattle.day.specs.Day.{Day, begin}
use Rattle.day.specs.Sheet.{sheet_from}

-- whether the sheet is over, the number of the line under way, its bytes so far, and the day before
-- it
pub record Fed : Type 0 where
  pub over : Bool
  pub number : ℕ
  pub line : List ℕ
  pub day : Day

abbrev pub beginning : Fed
beginning = record { over = false; number = 1; line = []; day = begin }

-- so many bytes of a line are looked at: "at most 64 bytes without" its line feed, so that one more
-- without it makes it too long
abbrev pub enough : ℕ
enough = suc line_limit

-- all that is looked at of the line is there
unfoldable pub whole_line : List ℕ → Bool
whole_line l = leb enough (length l) || eqb (get_or l (length l - 1) 0) 10

-- no byte is taken: the sheet is over, or a whole line is to be done first
abbrev pub closed : Fed → Bool
closed f = f.over || whole_line f.line

-- a whole line is to be done
abbrev pub waits : Fed → Bool
waits f = not f.over && whole_line f.line

-- ---- taking bytes

abbrev pub with_byte : Fed → ℕ → Fed
with_byte f x = record { over = f.over; number = f.number; line = f.line ++ (x ∷ []); day = f.day }

-- the bytes of a piece, as long as they are taken: what is known then, and how many they are
unfoldable pub taken : Fed → List ℕ → Fed
taken f [] = f
taken f (x ∷ s) = elim (closed f) [ true ↦ f | false ↦ taken (with_byte f x) s ]

unfoldable pub taken_bytes : Fed → List ℕ → ℕ
taken_bytes f [] = 0
taken_bytes f (x ∷ s) = elim (closed f) [ true ↦ 0 | false ↦ suc (taken_bytes (with_byte f x) s) ]

-- ---- what is still to come

-- the bytes l put before the first of the lines
unfoldable pub before : List ℕ → List (List ℕ) → List (List ℕ)
before [] ls = ls
before (x ∷ l) ls = on_first x (before l ls)

-- the lines still to be done where l is the line under way and the bytes s are still to come. What
-- follows a line that is too long does not matter
unfoldable pub lines_left : List ℕ → List ℕ → List (List ℕ)
lines_left l s = elim (whole_line l) [ true ↦ l ∷ lines_in s | false ↦ before l (lines_in s) ]

-- what is still to be printed where the bytes s are still to come
unfoldable pub remaining : Fed → List ℕ → List ℕ
remaining f s = elim f.over [ true ↦ [] | false ↦ sheet_from f.number f.day (lines_left f.line s) ]
