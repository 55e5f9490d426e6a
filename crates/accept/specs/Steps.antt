-- What private functions answer, of an input and its buffer. Nothing is promised here.
use Rattle.std.specs.Prelude.{List, ℕ, ◌≤◌, length}
use Rattle.accept.specs.declared.Source.{Source}

-- what was read and not taken lies in the buffer
pub record Holds (b : List ℕ) (x : Source) : Type 0 where
  pub ordered : x.from ≤ x.to
  pub within : x.to ≤ length b
