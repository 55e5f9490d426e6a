use native.Mathlib.Omega.{arith}
use Rattle.std.proofs.lemmas.Result.{err_from_is_err_and}
use Rattle.text.proofs.Reading as reading
use Rattle.text.proofs.read_digits.Goals as goal

pub loop-x-init : goal.loop-x-init
loop-x-init c = reading.begin

pub loop-x-preserved : goal.loop-x-preserved
loop-x-preserved c =
    reading.turn c.loop-x.invariant _ (omega arith)
    c.in_ok-n.ensures

pub returns-in_err-n : goal.returns-in_err-n
returns-in_err-n c =
    let p = err_from_is_err_and c.from_residual.result c.from_residual.ensures.1 in
    rw (p.1, p.2) (reading.stop c.loop-x.invariant _ (omega arith)
    (c.in_err-n.ensures))

pub returns : goal.returns
returns c = reading.end c.loop-x.invariant (omega arith)
