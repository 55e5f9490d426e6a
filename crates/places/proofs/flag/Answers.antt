use mathlib.Core.Path.{sym}
use Rattle.lists.proofs.Cases.{chosen, other}
use Rattle.places.proofs.flag.Goals as goal

pub returns-then-is : goal.returns-then-is
returns-then-is c = sym (chosen _ c.if-is.true)

pub returns-else-is : goal.returns-else-is
returns-else-is c = sym (other _ c.if-is.false)
