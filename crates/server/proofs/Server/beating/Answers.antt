use Rattle.server.proofs.Server.beating.Goals as goal

pub returns-in-Prospect : goal.returns-in-Prospect
returns-in-Prospect c = rw (c.in-Prospect.is, ← c.beat_limit.ensures) c.when.ensures

pub returns-in-Primary : goal.returns-in-Primary
returns-in-Primary c = rw (c.in-Primary.is, ← c.beat_limit.ensures) c.when-in-Primary.ensures
