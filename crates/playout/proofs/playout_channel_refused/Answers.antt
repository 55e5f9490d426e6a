use mathlib.Core.Path.{sym, ◌∙◌}
use Rattle.lists.proofs.Cases.{and_left}
use Rattle.playout.proofs.Writings.{puts_and, puts_no}
use Rattle.playout.proofs.playout_channel_refused.Goals as goal

pub returns-then-is_channel : goal.returns-then-is_channel
returns-then-is_channel c = puts_and (sym c.is_channel.ensures ∙ c.if-is_channel.true) c.write_refused.ensures

pub returns-else-is_channel : goal.returns-else-is_channel
returns-else-is_channel c = puts_no _ _ _ (and_left _ (sym c.is_channel.ensures ∙ c.if-is_channel.false))
