use mathlib.Core.Path.{sym, ◌∙◌}
use borrow.Author.Tests.{eq-eqb, ne_eqb}
use Rattle.lists.proofs.Cases.{chosen, other}
use Rattle.server.specs.Server.{sent_any}
use Rattle.server.proofs.Server.sent_any.Goals as goal

pub returns-then-self : goal.returns-then-self
unfolding sent_any
returns-then-self c = sym (chosen _ (eq-eqb _ _ c.if-self-eq0.true) ∙ chosen _ c.if-self.true)

pub returns-else-self : goal.returns-else-self
unfolding sent_any
returns-else-self c = sym (chosen _ (eq-eqb _ _ c.if-self-eq0.true) ∙ other _ c.if-self.false)

pub returns-else-self-eq0 : goal.returns-else-self-eq0
unfolding sent_any
returns-else-self-eq0 c = sym (other _ (ne_eqb _ _ c.if-self-eq0.false))
