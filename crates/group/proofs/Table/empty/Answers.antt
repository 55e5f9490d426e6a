use Rattle.group.proofs.Table.empty.Goals as goal

pub returns : goal.returns
returns c = rw c.absent-nobody.ensures
