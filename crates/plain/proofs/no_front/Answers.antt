use Rattle.plain.proofs.no_front.Goals as goal

pub returns : goal.returns
returns c = rw c.no_server-server.ensures
