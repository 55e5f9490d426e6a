use mathlib.Core.Path.{sym, ◌∙◌}
use Rattle.playout.proofs.Fronts.{begins_well, begins-ill}
use Rattle.playout.proofs.begun.Goals as goal

pub returns-then-is_front : goal.returns-then-is_front
returns-then-is_front c = begins_well _ _ (sym c.is_front.ensures ∙ c.if-is_front.true) c.begins.ensures

pub returns-else-is_front : goal.returns-else-is_front
returns-else-is_front c = begins-ill _ (sym c.is_front.ensures ∙ c.if-is_front.false)
