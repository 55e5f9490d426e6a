-- Bytes compared as far as both go.
use Rattle.std.specs.Prelude.{true, false, List, [], ◌∷◌, ℕ, suc, ◌+◌, eqb}
use Rattle.lists.specs.Choice.{choose}
use Rattle.departure.specs.declared.Compared.{Compared}

-- one where a byte ends a line, else none
abbrev pub line_end : ℕ → ℕ
line_end x = choose (eqb x 10) 1 0

-- how many lines they end
unfoldable pub line_ends : List ℕ → ℕ
line_ends [] = 0
line_ends (x ∷ s) = line_end x + line_ends s

-- the first bytes differ
abbrev pub differing : Compared
differing = record { departed = true; bytes = 0; lines = 0 }

-- one of the two has no byte
abbrev pub ending : Compared
ending = record { departed = false; bytes = 0; lines = 0 }

-- n equal bytes that end l lines, and then c
abbrev pub onwards : ℕ → ℕ → Compared → Compared
onwards n l c = record { departed = c.departed; bytes = n + c.bytes; lines = l + c.lines }

-- whether two bytes at the same place differ, how many are equal before, and how many lines these
-- end
unfoldable pub compared : List ℕ → List ℕ → Compared
compared [] found = ending
compared (d ∷ due) [] = ending
compared (d ∷ due) (g ∷ found) = elim (eqb d g) [ true ↦ onwards 1 (line_end d) (compared due found) | false ↦ differing ]
