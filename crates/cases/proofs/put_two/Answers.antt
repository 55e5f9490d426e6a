use Rattle.std.proofs.lemmas.Result.{err_from_is_err_and}
use Rattle.text.proofs.Writing.{first_piece, on, stopped}
use Rattle.text.specs.Digits.{digits}
use Rattle.text.specs.Words.{bytes}
use Rattle.cases.proofs.Showing.{two-pieces}
use Rattle.cases.proofs.put_two.Goals as goal

pub returns-in_err-first : goal.returns-in_err-first
returns-in_err-first c = let p = err_from_is_err_and c.from_residual.result c.from_residual.ensures.1 in rw (p.1, p.2) (rw (← two-pieces c.args.m c.args.n) (stopped (digits c.args.n) (stopped (bytes "\t") (first_piece c.in_err-first.ensures.writes))))

pub returns-in_err-tab : goal.returns-in_err-tab
returns-in_err-tab c = let p = err_from_is_err_and c.from_residual-in_err-tab.result c.from_residual-in_err-tab.ensures.1 in rw (p.1, p.2) (rw (← two-pieces c.args.m c.args.n) (stopped (digits c.args.n) (on (first_piece c.in_ok-first.ensures.writes) c.in_err-tab.ensures)))

pub returns : goal.returns
returns c = rw (← two-pieces c.args.m c.args.n) (on (on (first_piece c.in_ok-first.ensures.writes) c.in_ok-tab.ensures) c.write_number-2.ensures.writes)
