use Rattle.std.proofs.Common.{arith}
use Rattle.std.proofs.lemmas.Result.{err_from_is_err_and}
use Rattle.vectors.proofs.Building.{begin, turn, head_not, body_not, end}
use Rattle.vectors.proofs.build.Goals as goal

pub returns-in_err-at : goal.returns-in_err-at
returns-in_err-at c =
    let a = c.args in
    let p = err_from_is_err_and c.from_residual.result c.from_residual.ensures.1 in
    rw (p.1, p.2) (head_not a.day.now a.head.now a.body.now a.times a.tail.now c.in_err-at.ensures)

pub loop-init : goal.loop-init
loop-init c = let a = c.args in begin a.day.now a.head.now a.body.now a.times c.in_ok-at.ensures

pub loop-preserved : goal.loop-preserved
loop-preserved c = let a = c.args in turn a.day.now a.head.now a.body.now a.times c.loop.counter c.loop.invariant c.in_ok-at-2.ensures

pub returns-in_err-at-2 : goal.returns-in_err-at-2
returns-in_err-at-2 c =
    let a = c.args in
    let p = err_from_is_err_and c.from_residual-in_err-at-2.result c.from_residual-in_err-at-2.ensures.1 in
    rw (p.1, p.2) (body_not a.day.now a.head.now a.body.now a.times a.tail.now c.loop.counter (omega arith) c.loop.invariant c.in_err-at-2.ensures)

pub returns : goal.returns
returns c = let a = c.args in end a.day.now a.head.now a.body.now a.times c.loop.counter (omega arith) (omega arith) c.loop.invariant c.write_bytes-2.ensures
