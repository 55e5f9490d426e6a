use Rattle.server.proofs.Server.to_prospect.Goals as goal

pub returns : goal.returns
returns c = rw c.in_role-next.ensures
