use Rattle.playout.proofs.Fronts.{acted_zero, acted-some}
use Rattle.playout.proofs.acted_as.Goals as goal

pub returns-then-number-eq0 : goal.returns-then-number-eq0
returns-then-number-eq0 c = acted_zero _ _ _ c.if-number-eq0.true

pub returns-else-number-eq0 : goal.returns-else-number-eq0
returns-else-number-eq0 c = acted-some _ _ _ c.if-number-eq0.false
