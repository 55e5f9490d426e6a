use mathlib.Core.Path.{sym}
use borrow.Author.Tests.{eq-eqb, ne_eqb}
use Rattle.lists.proofs.Cases.{chosen, other}
use Rattle.cases.proofs.present.Goals as goal

pub returns-then-s-eq0 : goal.returns-then-s-eq0
returns-then-s-eq0 c = sym (chosen _ (eq-eqb _ 0 c.if-s-eq0.true))

pub returns-else-s-eq0 : goal.returns-else-s-eq0
returns-else-s-eq0 c = sym (other _ (ne_eqb _ 0 c.if-s-eq0.false))
