use native.Mathlib.Omega.{arith}
use Rattle.departure.proofs.Comparing.{count-begin, count_turn, count-end, alike-small}
use Rattle.departure.proofs.count.Goals as goal

pub loop-i-init : goal.loop-i-init
loop-i-init c = count-begin _ _ _

pub loop-i-preserved : goal.loop-i-preserved
loop-i-preserved c =
    let pre = c.requires in
    count_turn c.loop-i.invariant (omega arith) pre.0 pre.1 c.alike-equal.ensures c.line_feed-lines.ensures

pub overflow_add-equal : goal.overflow_add-equal
overflow_add-equal c = let e = c.loop-i.invariant.equal in let one = alike-small _ _ c.alike-equal.ensures in omega arith

pub overflow_add-lines : goal.overflow_add-lines
overflow_add-lines c = let l = (loop-i-preserved c).lines in omega arith

pub returns : goal.returns
returns c = count-end c.loop-i.invariant (omega arith)
