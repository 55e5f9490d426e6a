use mathlib.Core.Path.{sym, ◌∙◌}
use Rattle.playout.proofs.Channels.{opens_well, opens-ill}
use Rattle.playout.proofs.playout_channel_fresh.Goals as goal

pub returns-then-is_table : goal.returns-then-is_table
returns-then-is_table c = opens_well _ _ _ (sym c.is_table.ensures ∙ c.if-is_table.true) c.opens.ensures

pub returns-else-is_table : goal.returns-else-is_table
returns-else-is_table c = rw c.unopened.ensures (opens-ill _ _ (sym c.is_table.ensures ∙ c.if-is_table.false))
