-- What a call answers, in document 01's numbers.
use Rattle.std.specs.Prelude.{List, [], ◌++◌, ℕ, eqb, Result, Ok, Err}
use Rattle.lists.specs.Choice.{choose}
use Rattle.refusal.specs.declared.Refusal.{Refusal}
use Rattle.refusal.specs.declared.Refusal.TheVariants.{Form, Number, Timecode, Place, Taken, Servers, Period, Identity, Short, Past, Down, Up, Role, Link, DayOver}

-- the number that a call is refused with, 0 where it is accepted, and the values that it then gives
pub record Answer : Type 0 where
  pub number : ℕ
  pub values : List ℕ

abbrev pub accepted : List ℕ → Answer
accepted vs = record { number = 0; values = vs }

abbrev pub refused : ℕ → Answer
refused n = record { number = n; values = [] }

-- two tests "left to right": the first refusal, or the values of both
unfoldable pub in_turn : Answer → Answer → Answer
in_turn a b =
    choose (eqb a.number 0) (choose (eqb b.number 0) (accepted (a.values ++ b.values)) (refused b.number)) (refused a.number)

-- "From the input", 1 to 9, and "From the state", 11 to 16
abbrev pub number_of : Refusal → ℕ
number_of Form = 1
number_of Number = 2
number_of Timecode = 3
number_of Place = 4
number_of Taken = 5
number_of Servers = 6
number_of Period = 7
number_of Identity = 8
number_of Short = 9
number_of Past = 11
number_of Down = 12
number_of Up = 13
number_of Role = 14
number_of Link = 15
number_of DayOver = 16

-- the number of a call that gives no value but whether it is accepted; 0 where it is
abbrev pub of_verdict : Result (Unit {0}) Refusal → ℕ
of_verdict (Ok _) = 0
of_verdict (Err r) = number_of r
