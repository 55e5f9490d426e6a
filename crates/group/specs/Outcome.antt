-- What every call has in common: its number, its lines, and the channel that it hands back.
use Rattle.std.specs.Prelude.{List, ℕ, leb, eqb, length}
use Rattle.lists.specs.Choice.{choose}
use Rattle.lists.specs.Splice.{splice}
use Rattle.group.specs.declared.State.{State}

-- a call with a lent slice that is long enough: the number that it gets (0: none), the lines that
-- it writes and the next channel. Where it gets a number, the other two mean nothing and are not
-- looked at
pub record Outcome : Type 0 where
  pub number : ℕ
  pub lines : List ℕ
  pub channel : State

-- the number with a lent slice of n bytes: "9. The lent output slice is shorter than what the call
-- would otherwise write."
unfoldable pub number_in : Outcome → ℕ → ℕ
number_in o n = choose (eqb o.number 0) (choose (leb (length o.lines) n) 0 9) o.number

-- "Any of them returns its number and the same channel, and writes to no lent slice."
unfoldable pub channel_in : State → Outcome → ℕ → State
channel_in c o n = choose (eqb (number_in o n) 0) o.channel c

unfoldable pub written_in : Outcome → ℕ → ℕ
written_in o n = choose (eqb (number_in o n) 0) (length o.lines) 0

unfoldable pub slice_in : Outcome → List ℕ → List ℕ
slice_in o d = choose (eqb (number_in o (length d)) 0) (splice d 0 o.lines) d
