use Rattle.front.proofs.Front.heard.Goals as goal

pub returns : goal.returns
returns c = rw (c.with_server.ensures, c.hear-heard.ensures)
