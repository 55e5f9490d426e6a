use mathlib.Core.Path.{sym, ◌∙◌}
use Rattle.lists.proofs.Cases.{chosen, other}
use Rattle.dayline.proofs.fields_of.Goals as goal

pub returns-then-paired : goal.returns-then-paired
returns-then-paired c = sym (chosen _ (sym c.paired.ensures ∙ c.if-paired.true))

pub returns-else-paired : goal.returns-else-paired
returns-else-paired c = sym (other _ (sym c.paired.ensures ∙ c.if-paired.false))
