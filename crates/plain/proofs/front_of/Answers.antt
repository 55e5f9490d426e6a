use Rattle.plain.proofs.front_of.Goals as goal

pub returns : goal.returns
returns c = rw (c.period_of-period.ensures, c.server_of-server.ensures)
