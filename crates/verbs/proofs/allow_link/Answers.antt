use mathlib.Core.Path.{sym}
use Rattle.lists.proofs.Cases.{chosen, other}
use Rattle.verbs.proofs.allow_link.Goals as goal

pub returns-then-can : goal.returns-then-can
returns-then-can c = sym (chosen 15 c.if-can.true)

pub returns-else-can : goal.returns-else-can
returns-else-can c = sym (other 0 c.if-can.false)
