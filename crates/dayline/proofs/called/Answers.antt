use mathlib.Core.Path.{sym, ◌∙◌}
use Rattle.lists.proofs.Cases.{chosen, other}
use Rattle.dayline.proofs.called.Goals as goal

pub returns-then-same : goal.returns-then-same
returns-then-same c = sym (chosen _ (sym c.same.ensures ∙ c.if-same.true))

pub returns-else-same : goal.returns-else-same
returns-else-same c = sym (other _ (sym c.same.ensures ∙ c.if-same.false))
