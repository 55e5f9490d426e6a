use mathlib.Core.Path.{refl, sym, ◌∙◌}
use Rattle.frame.proofs.Quiet.{no_timer}
use Rattle.frame.proofs.Hearings.{no_ticks}
use Rattle.frame.proofs.tick.Goals as goal

pub returns-then-ticks : goal.returns-then-ticks
returns-then-ticks c = c.run_timers.ensures

pub returns-else-ticks : goal.returns-else-ticks
returns-else-ticks c =
    let a = c.args in
    no_ticks a.frame a.period a.s (no_timer a.frame a.period a.s a.s.role refl (sym c.ticks.ensures ∙ c.if-ticks.false))
