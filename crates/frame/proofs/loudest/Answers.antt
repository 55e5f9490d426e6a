use Rattle.frame.proofs.Loud.{loud_end}
use Rattle.frame.proofs.loudest.Goals as goal

pub returns : goal.returns
returns c = loud_end c.requires c.loop-i.invariant c.loop-i-test.false
