use mathlib.Core.Path.{sym, ap, ◌∙◌}
use Rattle.server.specs.Server.{sent_by}
use Rattle.frame.proofs.Hearings.{hears_as}
use Rattle.frame.proofs.Heeding.{silent-hears, heeds-silently}
use Rattle.frame.proofs.hear_from.Goals as goal

pub sender-from-requires : goal.sender-from-requires
sender-from-requires c = c.requires

pub returns-then-heeds : goal.returns-then-heeds
returns-then-heeds c =
    let a = c.args in
    let h = c.heeds.ensures in
    rw c.attend-next.ensures (silent-hears (heeds-silently a.frame a.s a.rank a.sending h.1 (sym h.0 ∙ c.if-heeds.true)))

pub returns-else-heeds : goal.returns-else-heeds
returns-else-heeds c = hears_as (ap sent_by c.sender-from.ensures) c.hear_each.ensures
