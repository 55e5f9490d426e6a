use borrow.Author.Tests.{eq-eqb, ne_eqb}
use Rattle.lists.proofs.Cases.{chosen, other}
use Rattle.frame.proofs.Hearings.{none}
use Rattle.frame.proofs.hear_pass.Goals as goal

pub returns-then-sender-eq0 : goal.returns-then-sender-eq0
returns-then-sender-eq0 c = rw (chosen _ (eq-eqb _ 0 c.if-sender-eq0.true)) none

pub returns-else-sender-eq0 : goal.returns-else-sender-eq0
returns-else-sender-eq0 c = rw (other _ (ne_eqb _ 0 c.if-sender-eq0.false)) (rw c.passing.ensures at c.hear_one.ensures)
