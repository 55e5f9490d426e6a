-- The lines of a list of calls, and those of its answers.
use Rattle.std.specs.Prelude.{◌≡◌, List, [], ◌∷◌, ◌++◌, ℕ, ◌+◌, ◌≤◌, eqb, length, take, Option, Some, option_and_then}
use Rattle.lists.specs.Choice.{choose}
use Rattle.text.specs.Words.{bytes}
use Rattle.text.specs.Digits.{digits}
use Rattle.text.specs.Line.{field, after_field}
use Rattle.server.specs.declared.Server.{Server}
use Rattle.roles.specs.Roles.{role_number}
use Rattle.group.specs.Table.{is_empty, counted}
use Rattle.asked.specs.Lines.{number_in}
use Rattle.cases.specs.declared.Args.{Args}
use Rattle.cases.specs.declared.Roles.{Roles}

-- four numbers, none where one of them was refused
abbrev pub args_of : Option ℕ → Option ℕ → Option ℕ → Option ℕ → Option Args
args_of a b c d =
    option_and_then (λ x. option_and_then (λ y. option_and_then (λ z. option_and_then (λ n. Some (record { x = x; y = y; z = z; length = n })) d) c) b) a

-- four fields
abbrev pub args_in : ℕ → ℕ → ℕ → ℕ → List ℕ → Option Args
args_in x y z l s =
    args_of
    (number_in x (field s 0))
    (number_in y (field (after_field s) 0))
    (number_in z (field (after_field (after_field s)) 0))
    (number_in l (after_field (after_field (after_field s))))

-- how many bytes are fillers
abbrev pub fillers : List ℕ → ℕ
fillers [] = 0
fillers (x ∷ s) = choose (eqb x 35) 1 0 + fillers s

-- a digit for the role of each server
abbrev pub roles_in : List Server → List ℕ
roles_in [] = []
roles_in (s ∷ l) = choose (is_empty s) (roles_in l) ((48 + role_number s.role) ∷ roles_in l)

-- the digits as the first of an array
pub record Shows (l : List Server) (r : Roles) : Type 0 where
  pub few : r.count ≤ length r.digits
  pub many : r.count ≡ counted l
  pub digits : take r.count r.digits ≡ roles_in l

-- two numbers, parted by a tab
abbrev pub two : ℕ → ℕ → List ℕ
two m n = digits m ++ (bytes "\t" ++ digits n)

-- the answer to a line of a table: its number, and how many servers there are
abbrev pub table_line : ℕ → List Server → List ℕ
table_line n l = two n (counted l) ++ bytes "\n"

-- the answer to a call, before what it wrote: its number, the bytes written, those kept, the frame,
-- and the roles
abbrev pub counts : ℕ → ℕ → ℕ → ℕ → List ℕ
counts n w k t = two n w ++ (bytes "\t" ++ (digits k ++ (bytes "\t" ++ (digits t ++ bytes "\t"))))

abbrev pub call_line : ℕ → ℕ → ℕ → ℕ → List Server → List ℕ
call_line n w k t l = counts n w k t ++ (roles_in l ++ bytes "\n")
