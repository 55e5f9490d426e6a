use mathlib.Core.Path.{sym}
use Rattle.lists.proofs.Cases.{chosen, other}
use Rattle.server.proofs.when.Goals as goal

pub returns-then-due : goal.returns-then-due
returns-then-due c = sym (chosen _ c.if-due.true)

pub returns-else-due : goal.returns-else-due
returns-else-due c = sym (other _ c.if-due.false)
