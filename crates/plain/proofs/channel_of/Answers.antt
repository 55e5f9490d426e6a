use Rattle.plain.proofs.channel_of.Goals as goal

pub returns : goal.returns
returns c = rw (c.period_of-period.ensures, c.links_of-whole.ensures, c.servers_of-servers.ensures)
