use mathlib.Core.Path.{◌∙◌}
use Rattle.judge.proofs.Holding.{some_decided, closed-by}
use Rattle.judge.proofs.Judge.closed.Goals as goal

pub returns : goal.returns
returns c = closed-by _ _ (c.is_some.ensures ∙ some_decided _)
