use native.Mathlib.Omega.{arith}
use Rattle.cases.proofs.Showing.{show_turn}
use Rattle.cases.proofs.roles_of.Goals as goal

pub overflow_add-n : goal.overflow_add-n
overflow_add-n c =
    let i = c.loop-s.invariant in
    let v = show_turn i (omega (arith, c.loop-s-test.true, i.long)) c.digit.ensures c.present-n.ensures in
    omega (arith, v.few, v.within)

pub loop-s-preserved : goal.loop-s-preserved
loop-s-preserved c =
    let i = c.loop-s.invariant in show_turn i (omega (arith, c.loop-s-test.true, i.long)) c.digit.ensures c.present-n.ensures
