use Rattle.plain.proofs.is_server.Goals as goal

pub returns : goal.returns
returns c = rw c.is_bit.ensures
