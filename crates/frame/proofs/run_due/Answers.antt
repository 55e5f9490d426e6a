use mathlib.Core.Path.{sym, ◌∙◌}
use Rattle.server.specs.Server.{after}
use Rattle.frame.proofs.Hearings.{beats_say}
use Rattle.frame.proofs.Quiet.{primary-beats}
use Rattle.frame.proofs.Writing.{says-out}
use Rattle.frame.proofs.run_due.Goals as goal

pub returns-then-is_primary : goal.returns-then-is_primary
unfolding after
returns-then-is_primary c =
    let a = c.args in
    beats_say a.frame a.period a.s (primary-beats a.frame a.period a.s (sym c.is_primary.ensures ∙ c.if-is_primary.true) c.requires) c.after-next.ensures (says-out c.say-after.ensures)

pub returns-else-is_primary : goal.returns-else-is_primary
returns-else-is_primary c = c.run_timers.ensures
