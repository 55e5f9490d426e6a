use mathlib.Core.Path.{subst}
use native.Mathlib.Omega.{arith}
use Rattle.server.specs.declared.Server.{Server}
use Rattle.frame.specs.Steps.{Rests}
use Rattle.frame.proofs.Quiet.{rest-turn}
use Rattle.frames.proofs.next_due.Goals as goal

pub loop-i-preserved : goal.loop-i-preserved
loop-i-preserved c =
    let a = c.args in
    rest-turn c.loop-i.invariant (omega (arith, c.loop-i-test.true))
    (subst (λ (s : Server). Rests a.frame a.period s c.wakes.result) c.server-s.ensures c.wakes.ensures) c.earlier-first.ensures
