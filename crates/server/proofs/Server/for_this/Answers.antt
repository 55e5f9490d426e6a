use mathlib.Core.Path.{refl}
use Rattle.server.specs.Hearing.{for_this}
use Rattle.server.proofs.Server.for_this.Goals as goal

pub returns : goal.returns
unfolding for_this
returns c = refl
