use mathlib.Core.Path.{◌∙◌}
use Rattle.bench.proofs.Running.{run_turn, run_end}
use Rattle.bench.proofs.day.Goals as goal

pub loop-n-preserved : goal.loop-n-preserved
loop-n-preserved c =
    let v = c.loop-n.invariant in
    (c.one-frame.auto.out ∙ v.0, run_turn v.1 c.loop-n-test.true c.one-frame.ensures)

pub returns : goal.returns
returns c = run_end c.loop-n.invariant.1 c.loop-n-test.false
