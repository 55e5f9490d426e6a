use Rattle.plain.proofs.is_channel.Goals as goal

pub returns : goal.returns
returns c = rw (c.are_bits.ensures, c.are_servers.ensures, c.is_period.ensures)
