use mathlib.Core.Path.{sym, ◌∙◌}
use Rattle.playout.proofs.Fronts.{ticks_well_lem, ticks-ill}
use Rattle.playout.proofs.timed.Goals as goal

pub returns-then-is_front : goal.returns-then-is_front
returns-then-is_front c = ticks_well_lem _ _ (sym c.is_front.ensures ∙ c.if-is_front.true) c.ticks.ensures

pub returns-else-is_front : goal.returns-else-is_front
returns-else-is_front c = ticks-ill _ (sym c.is_front.ensures ∙ c.if-is_front.false)
