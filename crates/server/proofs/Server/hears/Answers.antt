use mathlib.Core.Path.{◌≡◌, sym, ap, ◌∙◌}
use Rattle.heartbeat.specs.declared.Heartbeat.{Heartbeat}
use Rattle.roles.specs.declared.Role.{Role}
use Rattle.server.specs.declared.Server.{Server}
use Rattle.server.specs.Hearing.{hears_in}
use Rattle.server.proofs.Server.hears.Goals as goal

by-role : {a b : Role} → a ≡ b → (s : Server) (h : Heartbeat) → hears_in a s h ≡ hears_in b s h
by-role e s h = ap (λ (r : Role). hears_in r s h) e

pub returns-in-Backup : goal.returns-in-Backup
returns-in-Backup c = c.backup_hears.ensures ∙ by-role (sym c.in-Backup.is) c.args.self c.args.h

pub returns-in-Prospect : goal.returns-in-Prospect
returns-in-Prospect c = c.prospect_hears.ensures ∙ by-role (sym c.in-Prospect.is) c.args.self c.args.h

pub returns-in-Primary : goal.returns-in-Primary
returns-in-Primary c = c.primary_hears.ensures ∙ by-role (sym c.in-Primary.is) c.args.self c.args.h
