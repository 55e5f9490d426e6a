use mathlib.Core.Path.{◌∙◌}
use Rattle.playout.proofs.Channels.{opened_zero, opened_some}
use Rattle.playout.proofs.opened_as.Goals as goal

pub returns-then-number-eq0 : goal.returns-then-number-eq0
returns-then-number-eq0 c = rw c.plain_channel-channel.ensures (opened_zero c.args.number c.args.opened c.if-number-eq0.true)

pub returns-else-number-eq0 : goal.returns-else-number-eq0
returns-else-number-eq0 c = c.unopened.ensures ∙ opened_some c.args.number c.args.opened c.if-number-eq0.false
