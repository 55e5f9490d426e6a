use mathlib.Core.Path.{ap₂}
use mathlib.Core.Bool.{Bool, ◌||◌}
use Rattle.channel.proofs.stirs.Goals as goal

pub returns : goal.returns
returns c = ap₂ (λ (x y : Bool). x || y) c.sent_any.ensures c.ticks.ensures
