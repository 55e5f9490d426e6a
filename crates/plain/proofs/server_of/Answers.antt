use Rattle.plain.proofs.server_of.Goals as goal

pub returns : goal.returns
returns c = rw c.role_of-role.ensures
