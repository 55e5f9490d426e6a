use Rattle.std.specs.Prelude.{Ok}
use mathlib.Core.Path.{ap}
use mathlib.Core.List.{List}
use Rattle.server.specs.declared.Server.{Server}
use Rattle.group.specs.declared.Added.{Added}
use Rattle.group.proofs.Table.with.Goals as goal

-- a table of the servers l
abbrev accepted : List Server → Added
accepted l = record { verdict = (Ok tt); table = record { servers = l } }

pub returns : goal.returns
returns c = ap accepted c.enter-servers.ensures
