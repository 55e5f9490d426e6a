use Rattle.plain.proofs.plain_table.Goals as goal

pub returns : goal.returns
returns c = rw (c.plain_servers-servers.ensures, c.servers.ensures)
