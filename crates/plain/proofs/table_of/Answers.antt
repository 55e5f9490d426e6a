use mathlib.Core.Path.{ap, ◌∙◌}
use Rattle.group.specs.Table.{table_with}
use Rattle.plain.proofs.table_of.Goals as goal

pub returns : goal.returns
returns c = c.of-made.ensures.table ∙ ap table_with c.servers_of.ensures
