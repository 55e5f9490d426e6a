use Rattle.server.proofs.Server.attending.Goals as goal

pub returns-in-Backup : goal.returns-in-Backup
returns-in-Backup c = rw c.in-Backup.is
