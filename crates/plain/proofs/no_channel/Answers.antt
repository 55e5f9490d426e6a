use Rattle.plain.proofs.no_channel.Goals as goal

pub returns : goal.returns
returns c = rw c.no_server-nobody.ensures
