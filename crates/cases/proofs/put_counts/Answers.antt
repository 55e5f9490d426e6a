use Rattle.std.proofs.lemmas.Result.{err_from_is_err_and}
use Rattle.text.proofs.Writing.{on, stopped}
use Rattle.text.specs.Digits.{digits}
use Rattle.text.specs.Words.{bytes}
use Rattle.cases.proofs.Showing.{counts-pieces}
use Rattle.cases.proofs.put_counts.Goals as goal

pub returns-in_err-two : goal.returns-in_err-two
returns-in_err-two c = let p = err_from_is_err_and c.from_residual.result c.from_residual.ensures.1 in rw (p.1, p.2) (rw (← counts-pieces c.args.number c.args.written c.args.kept c.args.frame) (stopped (bytes "\t") (stopped (digits c.args.frame) (stopped (bytes "\t") (stopped (digits c.args.kept) (stopped (bytes "\t") (rw c.from.ensures at c.in_err-two.ensures)))))))

pub returns-in_err-tab : goal.returns-in_err-tab
returns-in_err-tab c = let p = err_from_is_err_and c.from_residual-in_err-tab.result c.from_residual-in_err-tab.ensures.1 in rw (p.1, p.2) (rw (← counts-pieces c.args.number c.args.written c.args.kept c.args.frame) (stopped (bytes "\t") (stopped (digits c.args.frame) (stopped (bytes "\t") (stopped (digits c.args.kept) (on (rw c.from.ensures at c.in_ok-two.ensures) c.in_err-tab.ensures))))))

pub returns-in_err-kept : goal.returns-in_err-kept
returns-in_err-kept c = let p = err_from_is_err_and c.from_residual-in_err-kept.result c.from_residual-in_err-kept.ensures.1 in rw (p.1, p.2) (rw (← counts-pieces c.args.number c.args.written c.args.kept c.args.frame) (stopped (bytes "\t") (stopped (digits c.args.frame) (stopped (bytes "\t") (on (on (rw c.from.ensures at c.in_ok-two.ensures) c.in_ok-tab.ensures) c.in_err-kept.ensures.writes)))))

pub returns-in_err-tab2 : goal.returns-in_err-tab2
returns-in_err-tab2 c = let p = err_from_is_err_and c.from_residual-in_err-tab2.result c.from_residual-in_err-tab2.ensures.1 in rw (p.1, p.2) (rw (← counts-pieces c.args.number c.args.written c.args.kept c.args.frame) (stopped (bytes "\t") (stopped (digits c.args.frame) (on (on (on (rw c.from.ensures at c.in_ok-two.ensures) c.in_ok-tab.ensures) c.in_ok-kept.ensures.writes) c.in_err-tab2.ensures))))

pub returns-in_err-frame : goal.returns-in_err-frame
returns-in_err-frame c = let p = err_from_is_err_and c.from_residual-in_err-frame.result c.from_residual-in_err-frame.ensures.1 in rw (p.1, p.2) (rw (← counts-pieces c.args.number c.args.written c.args.kept c.args.frame) (stopped (bytes "\t") (on (on (on (on (rw c.from.ensures at c.in_ok-two.ensures) c.in_ok-tab.ensures) c.in_ok-kept.ensures.writes) c.in_ok-tab2.ensures) (rw c.from-2.ensures at c.in_err-frame.ensures.writes))))

pub returns : goal.returns
returns c = rw (← counts-pieces c.args.number c.args.written c.args.kept c.args.frame) (on (on (on (on (on (rw c.from.ensures at c.in_ok-two.ensures) c.in_ok-tab.ensures) c.in_ok-kept.ensures.writes) c.in_ok-tab2.ensures) (rw c.from-2.ensures at c.in_ok-frame.ensures.writes)) c.write_bytes-3.ensures)
