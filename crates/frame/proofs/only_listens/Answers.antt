use mathlib.Core.Bool.{Bool, not, ◌&&◌}
use mathlib.Core.Path.{ap}
use lib.Dec.{eqb}
use Rattle.frame.proofs.only_listens.Goals as goal

pub returns : goal.returns
returns c = let x = c.args.sender in ap (λ (b : Bool). b && (not (eqb x.beats 0) && (not x.reveal && eqb x.pass 0))) c.is_backup.ensures
