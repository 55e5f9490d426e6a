use native.Mathlib.Omega.{arith}
use lib.ListN.{length}
use Rattle.calls.proofs.Going.{go-begin, go-turn, go-end, how_many}
use Rattle.calls.proofs.run.Goals as goal

pub loop-k-init : goal.loop-k-init
loop-k-init c = let a = c.args in (omega (arith, c.requires, how_many (length a.out.now) a.calls.now), go-begin)

pub loop-k-preserved : goal.loop-k-preserved
loop-k-preserved c =
    let l = c.loop-k in
    (l.invariant.0, go-turn l.invariant.1 c.loop-k-test.true l.invariant.0 c.lend-answer.auto.out c.lend-answer.ensures c.number.ensures)

pub returns : goal.returns
returns c = go-end c.loop-k.invariant.1 c.loop-k-test.false
