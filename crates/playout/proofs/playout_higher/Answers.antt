use Rattle.playout.proofs.playout_higher.Goals as goal

pub returns : goal.returns
returns c = rw (c.bit.ensures, c.higher.ensures, c.sender-second.ensures, c.heartbeat_of-2.ensures, c.sender-first.ensures, c.heartbeat_of.ensures)
