use Rattle.plain.proofs.plain_front.Goals as goal

pub returns : goal.returns
returns c = rw (c.beat_limit.ensures, c.plain_server-server.ensures)
