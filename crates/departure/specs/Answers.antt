-- What the comparison answers.
use Rattle.std.specs.Prelude.{◌≡◌, List, ℕ}
use Rattle.departure.specs.declared.Compared.{Compared}
use Rattle.departure.specs.Compare.{compared}
use Rattle.departure.specs.Laws.{Laws}

pub record Compares (due found : List ℕ) (r : Compared) : Type 0 where
  pub answer : r ≡ compared due found
  pub laws : Laws
