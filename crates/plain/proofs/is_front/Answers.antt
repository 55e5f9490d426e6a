use Rattle.plain.proofs.is_front.Goals as goal

pub returns : goal.returns
returns c = rw (c.is_period.ensures, c.is_server.ensures)
