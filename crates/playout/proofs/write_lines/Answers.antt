use Rattle.playout.proofs.Writings.{puts-said}
use Rattle.playout.proofs.write_lines.Goals as goal

pub returns : goal.returns
returns c = puts-said (rw (c.said-said.ensures, c.event_of.ensures) at c.say-at.ensures) c.written_to.ensures
