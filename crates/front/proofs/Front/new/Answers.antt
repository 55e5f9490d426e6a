use Rattle.std.proofs.lemmas.Result.{err_from_is_err_and}
use Rattle.front.proofs.Making.{no_server_lem, no_period, made}
use Rattle.front.proofs.Laws.{laws}
use Rattle.front.proofs.Front.new.Goals as goal

pub returns-in_err-made : goal.returns-in_err-made
returns-in_err-made c =
    let p = err_from_is_err_and c.from_residual.result c.from_residual.ensures.1 in
    rw (p.1, p.2) (record { answer = no_server_lem _ _ _ _ c.new-made.ensures _ c.in_err-made.was; laws = laws })

pub returns-in_err-period : goal.returns-in_err-period
returns-in_err-period c =
    let p = err_from_is_err_and c.from_residual-in_err-period.result c.from_residual-in_err-period.ensures.1 in
    rw (p.1, p.2)
    (record { answer = no_period _ _ _ _ c.new-made.ensures c.in_ok-made.was c.in_err-period.field-0.0 c.in_err-period.ensures; laws = laws })

pub returns : goal.returns
returns c = record { answer = made _ _ _ _ c.new-made.ensures c.in_ok-made.was _ c.in_ok-period.ensures; laws = laws }
