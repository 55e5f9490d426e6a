use mathlib.Core.Path.{sym, ◌∙◌}
use borrow.Author.Tests.{eq-eqb, ne_eqb}
use Rattle.lists.proofs.Cases.{chosen, other}
use Rattle.roles.specs.Verbs.{entering}
use Rattle.roles.proofs.entering.Goals as goal

pub returns-then-k-eq0 : goal.returns-then-k-eq0
unfolding entering
returns-then-k-eq0 c = sym (chosen _ (eq-eqb _ _ c.if-k-eq0.true))

pub returns-then-k-eq1 : goal.returns-then-k-eq1
unfolding entering
returns-then-k-eq1 c = sym (other _ (ne_eqb _ _ c.if-k-eq0.false) ∙ chosen _ (eq-eqb _ _ c.if-k-eq1.true))

pub returns-then-k-eq2 : goal.returns-then-k-eq2
unfolding entering
returns-then-k-eq2 c = sym (other _ (ne_eqb _ _ c.if-k-eq0.false) ∙ other _ (ne_eqb _ _ c.if-k-eq1.false) ∙ chosen _ (eq-eqb _ _ c.if-k-eq2.true))

pub returns-else-k-eq2 : goal.returns-else-k-eq2
unfolding entering
returns-else-k-eq2 c = sym (other _ (ne_eqb _ _ c.if-k-eq0.false) ∙ other _ (ne_eqb _ _ c.if-k-eq1.false) ∙ other _ (ne_eqb _ _ c.if-k-eq2.false))
