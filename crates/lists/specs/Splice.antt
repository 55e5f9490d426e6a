-- A list written into another.
use Rattle.std.specs.Prelude.{Bool, List, ◌++◌, ℕ, ◌+◌, leb, length, take, drop}

-- d with w written over it, the first element of w at the place `at`
abbrev pub splice : {A : Type 0} → List A → ℕ → List A → List A
splice d at w = take at d ++ w ++ drop (at + length w) d

-- such a w ends within d
abbrev pub fits : {A : Type 0} → List A → ℕ → List A → Bool
fits d at w = leb (at + length w) (length d)
