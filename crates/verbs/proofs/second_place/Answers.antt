use mathlib.Core.Path.{sym, ◌∙◌}
use Rattle.lists.proofs.Cases.{chosen, other}
use Rattle.verbs.proofs.second_place.Goals as goal

pub returns-then-paired : goal.returns-then-paired
returns-then-paired c = c.place_in.ensures ∙ sym (chosen 0 (sym c.paired.ensures ∙ c.if-paired.true))

pub returns-else-paired : goal.returns-else-paired
returns-else-paired c = sym (other _ (sym c.paired.ensures ∙ c.if-paired.false))
