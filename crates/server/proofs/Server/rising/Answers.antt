use Rattle.server.proofs.Server.rising.Goals as goal

pub returns-in-Prospect : goal.returns-in-Prospect
returns-in-Prospect c = rw (c.in-Prospect.is, ← c.prospect_limit.ensures) c.when.ensures
