use mathlib.Core.Bool.{Bool, ◌&&◌}
use mathlib.Core.Path.{ap, ap₂, ◌∙◌}
use Rattle.group.specs.Table.{is_table}
use Rattle.plain.proofs.is_table.Goals as goal

pub returns : goal.returns
returns c = ap₂ (λ (a b : Bool). a && b) c.are_servers.ensures (c.is_table.ensures ∙ ap is_table c.servers_of.ensures)
