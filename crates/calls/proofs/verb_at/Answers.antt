use mathlib.Core.Path.{sym, ◌∙◌}
use borrow.Author.Tests.{eq-eqb, ne_eqb}
use Rattle.lists.proofs.Cases.{chosen, other}
use Rattle.calls.specs.Encoding.{verb_at}
use Rattle.calls.proofs.verb_at.Goals as goal

pub returns-then-k-eq0 : goal.returns-then-k-eq0
unfolding verb_at
returns-then-k-eq0 c = sym (chosen _ (eq-eqb _ 0 c.if-k-eq0.true))

pub returns-then-k-eq1 : goal.returns-then-k-eq1
unfolding verb_at
returns-then-k-eq1 c = sym (other _ (ne_eqb _ 0 c.if-k-eq0.false) ∙ chosen _ (eq-eqb _ 1 c.if-k-eq1.true))

pub returns-then-k-eq2 : goal.returns-then-k-eq2
unfolding verb_at
returns-then-k-eq2 c = sym (other _ (ne_eqb _ 0 c.if-k-eq0.false) ∙ other _ (ne_eqb _ 1 c.if-k-eq1.false) ∙ chosen _ (eq-eqb _ 2 c.if-k-eq2.true))

pub returns-then-k-eq3 : goal.returns-then-k-eq3
unfolding verb_at
returns-then-k-eq3 c = sym (other _ (ne_eqb _ 0 c.if-k-eq0.false) ∙ other _ (ne_eqb _ 1 c.if-k-eq1.false) ∙ other _ (ne_eqb _ 2 c.if-k-eq2.false) ∙ chosen _ (eq-eqb _ 3 c.if-k-eq3.true))

pub returns-then-k-eq4 : goal.returns-then-k-eq4
unfolding verb_at
returns-then-k-eq4 c = sym (other _ (ne_eqb _ 0 c.if-k-eq0.false) ∙ other _ (ne_eqb _ 1 c.if-k-eq1.false) ∙ other _ (ne_eqb _ 2 c.if-k-eq2.false) ∙ other _ (ne_eqb _ 3 c.if-k-eq3.false) ∙ chosen _ (eq-eqb _ 4 c.if-k-eq4.true))

pub returns-then-k-eq5 : goal.returns-then-k-eq5
unfolding verb_at
returns-then-k-eq5 c = sym (other _ (ne_eqb _ 0 c.if-k-eq0.false) ∙ other _ (ne_eqb _ 1 c.if-k-eq1.false) ∙ other _ (ne_eqb _ 2 c.if-k-eq2.false) ∙ other _ (ne_eqb _ 3 c.if-k-eq3.false) ∙ other _ (ne_eqb _ 4 c.if-k-eq4.false) ∙ chosen _ (eq-eqb _ 5 c.if-k-eq5.true))

pub returns-then-k-eq6 : goal.returns-then-k-eq6
unfolding verb_at
returns-then-k-eq6 c = sym (other _ (ne_eqb _ 0 c.if-k-eq0.false) ∙ other _ (ne_eqb _ 1 c.if-k-eq1.false) ∙ other _ (ne_eqb _ 2 c.if-k-eq2.false) ∙ other _ (ne_eqb _ 3 c.if-k-eq3.false) ∙ other _ (ne_eqb _ 4 c.if-k-eq4.false) ∙ other _ (ne_eqb _ 5 c.if-k-eq5.false) ∙ chosen _ (eq-eqb _ 6 c.if-k-eq6.true))

pub returns-else-k-eq6 : goal.returns-else-k-eq6
unfolding verb_at
returns-else-k-eq6 c = sym (other _ (ne_eqb _ 0 c.if-k-eq0.false) ∙ other _ (ne_eqb _ 1 c.if-k-eq1.false) ∙ other _ (ne_eqb _ 2 c.if-k-eq2.false) ∙ other _ (ne_eqb _ 3 c.if-k-eq3.false) ∙ other _ (ne_eqb _ 4 c.if-k-eq4.false) ∙ other _ (ne_eqb _ 5 c.if-k-eq5.false) ∙ other _ (ne_eqb _ 6 c.if-k-eq6.false))
