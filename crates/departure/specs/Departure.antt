-- Where a sheet departs from the one that is due.
use Rattle.std.specs.Prelude.{true, false, List, [], ◌∷◌, ℕ, suc}
use Rattle.lists.specs.Lists.{same}
use Rattle.day.specs.Read.{lines_in}
use Rattle.day.specs.Sheet.{sheet}
use Rattle.departure.specs.declared.Departure.{Departure}
use Rattle.departure.specs.declared.Departure.TheVariants.{Same, At}

-- "the number of the first sheet line that departs", place by place, the first lines given being
-- those of number k: the lines due, and the lines found. "A missing line counts at the place it
-- should have had; a surplus line at its own place."
unfoldable pub departs_from : ℕ → List (List ℕ) → List (List ℕ) → Departure
departs_from k [] [] = Same
departs_from k [] (g ∷ gs) = At k
departs_from k (d ∷ ds) [] = At k
departs_from k (d ∷ ds) (g ∷ gs) = elim (same d g) [ true ↦ departs_from (suc k) ds gs | false ↦ At k ]

-- of the bytes due and those found. "The header is line 1, and a line without its line feed
-- departs": every line of a sheet is written with it, and lines are compared with it
unfoldable pub departure : List ℕ → List ℕ → Departure
departure due found = departs_from 1 (lines_in due) (lines_in found)

-- the number alone: 0 for the same, since no line has it
abbrev pub line_number : Departure → ℕ
line_number Same = 0
line_number (At n) = n

-- of a day and a sheet: "`same` is printed for exactly the sheet document 01 defines for that day."
-- Of a day that is refused that sheet "ends with that refusal"
abbrev pub judged : List ℕ → List ℕ → Departure
judged day found = departure (sheet day) found
