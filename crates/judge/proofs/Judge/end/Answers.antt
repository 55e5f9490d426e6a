use mathlib.Core.Path.{◌∙◌}
use Rattle.judge.proofs.Holding.{min_least}
use Rattle.judge.proofs.Judge.end.Goals as goal

pub returns : goal.returns
returns c = c.min.ensures ∙ min_least _ _
