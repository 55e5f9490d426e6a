use Rattle.frame.proofs.Hearings.{turn, finish, replicate_more, replicate-none}
use Rattle.frame.proofs.hear_beats.Goals as goal

pub loop-preserved : goal.loop-preserved
loop-preserved c =
    let p = c.hear_one-t in
    turn c.loop.invariant (replicate_more _ _ _ c.loop-test.true) p.auto.out p.ensures

pub returns : goal.returns
returns c = finish c.loop.invariant (replicate-none _ _ _ c.loop-test.false)
