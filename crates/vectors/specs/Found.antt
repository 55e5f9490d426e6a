-- What is found of a day or a pair.
use Rattle.std.specs.Prelude.{Result}
use Rattle.vectors.specs.declared.Differs.{Differs}

-- it agrees, or what differs first
abbrev pub Found : Type 0
Found = Result (Unit {0}) Differs
