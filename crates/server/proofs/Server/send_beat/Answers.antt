use Rattle.server.proofs.Server.send_beat.Goals as goal

pub returns : goal.returns
returns c = rw c.one_more.ensures
