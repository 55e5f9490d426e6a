use Rattle.vectors.proofs.Pairing.{turn, end, halted}
use Rattle.vectors.proofs.all_pairs.Goals as goal

pub loop-k-preserved : goal.loop-k-preserved
loop-k-preserved g c = turn c.loop-k.invariant c.loop-k-test.true c.if-not-tally.false c.in_ok-tally.ensures

pub returns-after-loop-k : goal.returns-after-loop-k
returns-after-loop-k g c = end c.loop-k.invariant c.loop-k-test.false

pub returns-then-not-tally : goal.returns-then-not-tally
returns-then-not-tally g c = halted c.loop-k.invariant c.if-not-tally.true
