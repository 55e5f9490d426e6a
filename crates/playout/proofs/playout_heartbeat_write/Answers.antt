use Rattle.playout.proofs.Writings.{puts_if}
use Rattle.playout.proofs.playout_heartbeat_write.Goals as goal

pub returns : goal.returns
returns c = puts_if (rw c.heartbeat_of.ensures at c.write.ensures.writes) c.written_of.ensures
