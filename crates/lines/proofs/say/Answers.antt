use Rattle.lines.proofs.Saying.{says-dry}
use Rattle.lines.proofs.say.Goals as goal

pub returns-then-wet : goal.returns-then-wet
returns-then-wet c = rw c.if-wet.true c.write.ensures

pub returns-else-wet : goal.returns-else-wet
returns-else-wet c = let a = c.args in rw c.if-wet.false (says-dry a.out.now a.at c.place.ensures c.said_length.ensures)
