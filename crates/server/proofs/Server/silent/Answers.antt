use Rattle.server.proofs.Server.silent.Goals as goal

pub returns-in-Backup : goal.returns-in-Backup
returns-in-Backup c = rw (c.in-Backup.is, ← c.silence_limit.ensures) c.when.ensures
