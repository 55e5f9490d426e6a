use mathlib.Core.Path.{sym}
use Rattle.lists.proofs.Cases.{chosen, other}
use Rattle.frame.proofs.one_for.Goals as goal

pub returns-then-is : goal.returns-then-is
returns-then-is c = sym (chosen 0 c.if-is.true)

pub returns-else-is : goal.returns-else-is
returns-else-is c = sym (other 1 c.if-is.false)
