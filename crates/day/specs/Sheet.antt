-- The sheet of a day: from the day's bytes to the sheet's.
use Rattle.std.specs.Prelude.{List, [], ◌∷◌, ◌++◌, ℕ, suc}
use Rattle.text.specs.Words.{bytes}
use Rattle.text.specs.Digits.{digits}
use Rattle.lines.specs.Lines.{refused_word}
use Rattle.day.specs.Read.{lines_in, line_read}
use Rattle.day.specs.Day.{Stage, atPeriod, atServers, atEntries, atClose, Day, begin, stop, go, effect_of}

-- "The first line of every sheet is the header `time`, `server`, `what`."
abbrev pub header : List ℕ
header = bytes "time\tserver\twhat\n"

-- "An input refusal prints `line`, its line number, `refused-` and the number, and ends the sheet."
unfoldable pub input_refusal : ℕ → ℕ → List ℕ
input_refusal k n = bytes "line\t" ++ (digits k ++ (bytes "\t" ++ (refused_word n ++ bytes "\n")))

-- "4. .. input ended without `end` (line number one past the last)"
abbrev pub finish : ℕ → Stage → List ℕ
finish k atPeriod = input_refusal k 4
finish k atServers = input_refusal k 4
finish k atEntries = input_refusal k 4
finish k atClose = []

-- what is printed from line k on, the day so far being d and these lines being still to come
unfoldable pub sheet_from : ℕ → Day → List (List ℕ) → List ℕ
sheet_from k d [] = finish k d.stage
sheet_from k d (l ∷ ls) = elim (effect_of k d (line_read l)) [ stop n ↦ input_refusal k n | go w e ↦ w ++ sheet_from (suc k) e ls ]

-- every day begins anew: "A day ends there; nothing carries over."
unfoldable pub sheet : List ℕ → List ℕ
sheet s = header ++ sheet_from 1 begin (lines_in s)
