use Rattle.std.proofs.lemmas.Result.{err_from_is_err_and}
use Rattle.text.proofs.Writing.{on, stopped}
use Rattle.text.specs.Words.{bytes}
use Rattle.cases.specs.Cases.{roles_in}
use Rattle.cases.proofs.Showing.{call-pieces}
use Rattle.cases.proofs.put_call.Goals as goal

pub returns-in_err-counts : goal.returns-in_err-counts
returns-in_err-counts c = let p = err_from_is_err_and c.from_residual.result c.from_residual.ensures.1 in rw (p.1, p.2) (rw (← call-pieces c.args.number c.args.written c.args.kept c.args.frame c.args.servers) (stopped (bytes "\n") (stopped (roles_in c.args.servers) c.in_err-counts.ensures)))

pub returns-in_err-roles : goal.returns-in_err-roles
returns-in_err-roles c = let p = err_from_is_err_and c.from_residual-in_err-roles.result c.from_residual-in_err-roles.ensures.1 in rw (p.1, p.2) (rw (← call-pieces c.args.number c.args.written c.args.kept c.args.frame c.args.servers) (stopped (bytes "\n") (on c.in_ok-counts.ensures (rw c.roles_of-roles.ensures.digits at c.in_err-roles.ensures))))

pub returns : goal.returns
returns c = rw (← call-pieces c.args.number c.args.written c.args.kept c.args.frame c.args.servers) (on (on c.in_ok-counts.ensures (rw c.roles_of-roles.ensures.digits at c.in_ok-roles.ensures)) c.write_bytes-2.ensures)
