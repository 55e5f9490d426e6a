use mathlib.Core.Path.{sym, ◌∙◌}
use Rattle.group.proofs.Opening.{takes, takes-not}
use Rattle.group.proofs.Table.of.Goals as goal

pub returns-then-is_table : goal.returns-then-is_table
returns-then-is_table c = takes _ (sym c.is_table.ensures ∙ c.if-is_table.true)

pub returns-else-is_table : goal.returns-else-is_table
returns-else-is_table c = takes-not _ (sym c.is_table.ensures ∙ c.if-is_table.false) c.empty-table.ensures c.refused.ensures
