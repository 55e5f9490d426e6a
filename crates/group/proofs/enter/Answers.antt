use Rattle.std.proofs.Common.{rules}
use Rattle.lists.proofs.Cases.{length_mapped}
use Rattle.group.proofs.Tables.{enter-begin, enter-turn, enter-end}
use Rattle.group.proofs.enter.Goals as goal

pub loop-place-init : goal.loop-place-init
loop-place-init c = enter-begin (search (rules, length_mapped))

pub loop-place-preserved : goal.loop-place-preserved
loop-place-preserved c =
    enter-turn c.loop-place.invariant c.loop-place-test.true c.stands_before-first.ensures c.pick-entered.ensures c.pick-carried.ensures

pub returns : goal.returns
returns c = enter-end c.loop-place.invariant c.loop-place-test.false
