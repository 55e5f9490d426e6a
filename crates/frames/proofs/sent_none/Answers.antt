use Rattle.places.proofs.Words.{unsent-at}
use Rattle.frames.proofs.sent_none.Goals as goal

pub returns : goal.returns
returns c e = unsent-at c.args.words.now c.args.i c.requires e
