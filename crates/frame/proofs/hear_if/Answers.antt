use Rattle.lists.specs.Choice.{choose}
use Rattle.frame.proofs.Hearings.{none}
use Rattle.frame.proofs.hear_if.Goals as goal

pub returns-then-yes : goal.returns-then-yes
unfolding choose
returns-then-yes c = rw c.if-yes.true c.hear_one.ensures

pub returns-else-yes : goal.returns-else-yes
unfolding choose
returns-else-yes c = rw c.if-yes.false none
