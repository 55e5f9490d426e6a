use mathlib.Core.Path.{sym, ◌∙◌}
use Rattle.playout.proofs.Channels.{adds_well, adds-ill}
use Rattle.playout.proofs.playout_table_add.Goals as goal

pub returns-then-is_table : goal.returns-then-is_table
returns-then-is_table c = adds_well _ _ _ _ (sym c.is_table.ensures ∙ c.if-is_table.true) c.adds.ensures

pub returns-else-is_table : goal.returns-else-is_table
returns-else-is_table c = adds-ill _ _ _ (sym c.is_table.ensures ∙ c.if-is_table.false)
