use Rattle.group.specs.Table.{anew}
use Rattle.group.proofs.anew.Goals as goal

pub returns : goal.returns
unfolding anew
returns c = c.new-made.ensures.server
