use mathlib.Core.Path.{sym}
use Rattle.lists.proofs.Cases.{chosen, other}
use Rattle.plain.proofs.bit.Goals as goal

pub returns-then-on : goal.returns-then-on
returns-then-on c = sym (chosen _ c.if-on.true)

pub returns-else-on : goal.returns-else-on
returns-else-on c = sym (other _ c.if-on.false)
