-- Which role a server is in; who hears and has a timer, and who is still.
use Rattle.std.specs.Prelude.{Bool, true, false, not}
use Rattle.roles.specs.declared.Role.{Role}
use Rattle.roles.specs.declared.Role.TheVariants.{Down, Idle, Sync, Backup, Prospect, Primary}
use Rattle.server.specs.declared.Server.{Server}
use Rattle.server.specs.Server.{sent_any}

abbrev pub is_backup : Role → Bool
is_backup Down = false
is_backup Idle = false
is_backup Sync = false
is_backup Backup = true
is_backup Prospect = false
is_backup Primary = false

abbrev pub is_prospect : Role → Bool
is_prospect Down = false
is_prospect Idle = false
is_prospect Sync = false
is_prospect Backup = false
is_prospect Prospect = true
is_prospect Primary = false

abbrev pub is_primary : Role → Bool
is_primary Down = false
is_primary Idle = false
is_primary Sync = false
is_primary Backup = false
is_primary Prospect = false
is_primary Primary = true

-- in a role that neither hears nor has a timer, if nothing was sent
abbrev pub still_in : Role → Bool → Bool
still_in Down sent = not sent
still_in Idle sent = not sent
still_in Sync sent = not sent
still_in Backup sent = false
still_in Prospect sent = false
still_in Primary sent = false

-- it neither hears nor has a timer, and sent nothing
abbrev pub is_still : Server → Bool
is_still s = still_in s.role (sent_any s)
