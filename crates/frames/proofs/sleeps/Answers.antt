use Rattle.frames.proofs.Beating.{asleep}
use Rattle.frames.proofs.sleeps.Goals as goal

pub returns : goal.returns
returns c e = asleep c.args.since c.args.limit c.args.frame c.args.next e
