-- The lines of a file, and the numbers of a line.
use Rattle.std.specs.Prelude.{List, [], ◌∷◌, ℕ, ◌+◌, eqb, get_or, take, drop, Option, Some, None}
use Rattle.lists.specs.Choice.{choose}
use Rattle.lists.specs.Lists.{up_to}
use Rattle.refusal.specs.Answer.{Answer}
use Rattle.text.specs.Line.{field}
use Rattle.text.specs.Number.{read_number}

-- a number that was read, none where it was refused
abbrev pub of_answer : Answer → Option ℕ
of_answer a = choose (eqb a.number 0) (Some (get_or a.values 0 0)) None

-- a field as a number up to the greatest
abbrev pub number_in : ℕ → List ℕ → Option ℕ
number_in greatest s = of_answer (read_number 0 greatest s)

-- the only byte of a field, if it has one only
abbrev pub only : List ℕ → Option ℕ
only [] = None
only (x ∷ []) = Some x
only (x ∷ y ∷ s) = None

-- the letter that is a line's first field
abbrev pub letter_in : List ℕ → Option ℕ
letter_in s = only (field s 0)

-- the first line, without its line feed
abbrev pub first_line : List ℕ → List ℕ
first_line s = take (up_to 10 s) s

-- what follows the first line and its line feed
abbrev pub after_line : List ℕ → List ℕ
after_line s = drop (up_to 10 s + 1) s
