use mathlib.Core.Path.{sym}
use borrow.Author.Tests.{eq-eqb, ne_eqb}
use Rattle.lists.proofs.Cases.{chosen, other}
use Rattle.dayline.proofs.counted.Goals as goal

pub returns-then-count-due : goal.returns-then-count-due
returns-then-count-due c = sym (chosen _ (eq-eqb _ _ c.if-count-due.true))

pub returns-else-count-due : goal.returns-else-count-due
returns-else-count-due c = sym (other _ (ne_eqb _ _ c.if-count-due.false))
