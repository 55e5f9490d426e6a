use mathlib.Core.Path.{◌≡◌}
use native.Mathlib.Omega.{arith}
use Rattle.departure.proofs.Comparing as comparing
use Rattle.departure.proofs.Laws.{laws}
use Rattle.departure.proofs.compare.Goals as goal

pub returns-then-due-i : goal.returns-then-due-i
returns-then-due-i c =
    record { answer = comparing.differ c.loop-i.invariant (omega arith) (omega arith) c.if-due-i.true; laws = laws }

pub loop-i-preserved : goal.loop-i-preserved
loop-i-preserved c = comparing.turn c.loop-i.invariant (omega arith) (omega arith) c.if-due-i.false c.line_feed.ensures

pub returns : goal.returns
returns c =
    let e : c.min-end.result ≡ c.loop-i.i = omega arith in
    record { answer = rw e (comparing.end c.loop-i.invariant (λ h. omega arith)); laws = laws }
