use Rattle.playout.proofs.hears.Goals as goal

pub returns : goal.returns
returns c = rw (c.role_number.ensures, c.event_number.ensures, c.plain_front.ensures, c.heard-next.ensures, c.heartbeat_of.ensures, c.front_of-was.ensures)
