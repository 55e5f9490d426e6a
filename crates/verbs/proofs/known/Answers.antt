use mathlib.Core.Path.{sym, ap, ◌∙◌}
use mathlib.Core.Bool.{Bool, true, ◌&&◌}
use lib.Dec.{ltb}
use Rattle.lists.proofs.Cases.{chosen, other}
use Rattle.group.specs.Table.{most}
use Rattle.verbs.proofs.Acting.{and_rest}
use Rattle.verbs.proofs.known.Goals as goal

pub returns-then-paired : goal.returns-then-paired
returns-then-paired c = let a = c.args in ap (λ (t : Bool). ltb a.i most && t) (sym (chosen true (sym c.paired.ensures ∙ c.if-paired.true)))

pub returns-else-paired : goal.returns-else-paired
returns-else-paired c = let a = c.args in sym (ap (λ (t : Bool). ltb a.i most && t) (other _ (sym c.paired.ensures ∙ c.if-paired.false)) ∙ and_rest (ltb a.i most))
