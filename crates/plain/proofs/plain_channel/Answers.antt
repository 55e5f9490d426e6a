use Rattle.plain.proofs.plain_channel.Goals as goal

pub returns : goal.returns
returns c = rw (c.beat_limit.ensures, c.plain_links-whole.ensures, c.plain_servers-servers.ensures)
