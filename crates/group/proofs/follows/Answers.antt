use mathlib.Core.Path.{refl}
use Rattle.group.specs.Table.{follows}
use Rattle.group.proofs.follows.Goals as goal

pub returns : goal.returns
unfolding follows
returns c = refl
