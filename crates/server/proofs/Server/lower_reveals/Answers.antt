use mathlib.Core.Bool.{◌&&◌}
use mathlib.Core.Path.{ap₂}
use Rattle.server.proofs.Server.lower_reveals.Goals as goal

pub returns : goal.returns
returns c = ap₂ ◌&&◌ c.reveals.ensures c.from_lower.ensures
