use mathlib.Core.Path.{ap}
use mathlib.Core.Bool.{Bool, ◌&&◌, ◌||◌}
use lib.Dec.{eqb}
use Rattle.group.specs.Verbs.{names_nobody}
use Rattle.verbs.proofs.names_nobody.Goals as goal

pub returns : goal.returns
unfolding names_nobody
returns c = let a = c.args in ap (λ (t : Bool). eqb a.a 0 || (t && eqb a.b 0)) c.paired.ensures
