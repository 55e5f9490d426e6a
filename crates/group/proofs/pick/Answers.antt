use mathlib.Core.Path.{sym}
use Rattle.lists.proofs.Cases.{chosen, other}
use Rattle.group.proofs.pick.Goals as goal

pub returns-then-first : goal.returns-then-first
returns-then-first c = sym (chosen _ c.if-first.true)

pub returns-else-first : goal.returns-else-first
returns-else-first c = sym (other _ c.if-first.false)
