use mathlib.Core.Path.{ap₂}
use mathlib.Core.Bool.{◌||◌}
use Rattle.frame.proofs.heard_enough.Goals as goal

pub returns : goal.returns
returns c = (ap₂ ◌||◌ c.stays.ensures.0 c.has_listened.ensures, c.stays.ensures.1)
