use Rattle.front.proofs.Front.timed.Goals as goal

pub returns : goal.returns
returns c = rw (c.with_server.ensures, c.timers-timed.ensures)
