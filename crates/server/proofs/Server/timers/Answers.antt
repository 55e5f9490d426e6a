use Rattle.server.proofs.Timing.{timing}
use Rattle.server.proofs.Server.timers.Goals as goal

pub returns : goal.returns
returns c =
    let a = c.args in
    timing a.frame a.period a.self
    c.silent-silent.ensures
    c.after-a.ensures
    c.beating-beating.ensures
    c.after-b.ensures
    c.rising-rising.ensures
    c.after-server.ensures
