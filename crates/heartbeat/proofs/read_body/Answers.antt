use mathlib.Core.Path.{sym, ◌∙◌}
use borrow.Author.Tests.{eq-eqb, ne_eqb}
use Rattle.lists.proofs.Cases.{chosen, other}
use Rattle.heartbeat.specs.Heartbeat.{read_body}
use Rattle.heartbeat.proofs.read_body.Goals as goal

pub returns-then-field_count-eq4 : goal.returns-then-field_count-eq4
unfolding read_body
returns-then-field_count-eq4 c = c.read_fields.ensures ∙ sym (chosen _ (eq-eqb _ _ (sym c.field_count.ensures ∙ c.if-field_count-eq4.true)))

pub returns-else-field_count-eq4 : goal.returns-else-field_count-eq4
unfolding read_body
returns-else-field_count-eq4 c = sym (other _ (ne_eqb _ _ (λ e. c.if-field_count-eq4.false (c.field_count.ensures ∙ e))))
