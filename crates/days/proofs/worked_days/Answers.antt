use mathlib.Core.Path.{refl}
use Rattle.days.proofs.Worked.{worked_days}
use Rattle.days.proofs.worked_days.Goals as goal

pub returns : goal.returns
returns c = record { counted = refl; number = refl; hold = worked_days }
