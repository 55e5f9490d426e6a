use mathlib.Core.Path.{ap, ◌∙◌}
use Rattle.judge.specs.Answers.{least}
use Rattle.judge.proofs.Holding.{min_least}
use Rattle.judge.proofs.Judge.start.Goals as goal

pub returns : goal.returns
returns c = c.min.ensures ∙ min_least _ _ ∙ ap (least _) c.end.ensures
