use Rattle.std.proofs.lemmas.Result.{err_from_is_err_and}
use Rattle.text.proofs.Writing.{on, stopped}
use Rattle.text.specs.Words.{bytes}
use Rattle.cases.proofs.put_table.Goals as goal

pub returns-in_err-two : goal.returns-in_err-two
returns-in_err-two c = let p = err_from_is_err_and c.from_residual.result c.from_residual.ensures.1 in rw (p.1, p.2) (stopped (bytes "\n") (rw (c.roles_of-roles.ensures.many, c.from.ensures) at c.in_err-two.ensures))

pub returns : goal.returns
returns c = on (rw (c.roles_of-roles.ensures.many, c.from.ensures) at c.in_ok-two.ensures) c.write_bytes.ensures
