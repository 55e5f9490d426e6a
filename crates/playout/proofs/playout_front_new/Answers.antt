use mathlib.Core.Path.{ap, ◌∙◌}
use Rattle.playout.specs.Steps.{made_of}
use Rattle.playout.proofs.Fronts.{front-made}
use Rattle.playout.proofs.playout_front_new.Goals as goal

pub returns : goal.returns
returns c = c.made_of.ensures ∙ ap made_of c.new.ensures.answer ∙ front-made _ _ _
