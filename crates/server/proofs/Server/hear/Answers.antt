use Rattle.server.proofs.Server.hear.Goals as goal

pub returns : goal.returns
returns c = rw (c.after-server.ensures, c.attending.ensures, c.hears-event.ensures)
